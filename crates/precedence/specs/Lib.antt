pub mod Grounds
pub mod Rules
