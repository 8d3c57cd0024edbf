pub mod Standings
pub mod Orderings
pub mod Places
pub mod Lines
