pub mod Standings
pub mod Laws
pub mod Lines
