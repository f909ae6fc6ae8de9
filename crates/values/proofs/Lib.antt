pub mod Same
pub mod Readings
