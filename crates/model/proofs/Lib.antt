pub mod Words
pub mod Preemption
pub mod Places
pub mod Cases
pub mod Lawful
pub mod Timely
pub mod Orderly
pub mod Laws
