pub mod Rules
pub mod Lines
pub mod Text
