pub mod Lines
pub mod Faults
pub mod Tokens
pub mod Readings
pub mod Takes
