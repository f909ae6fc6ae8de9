pub mod Ways
pub mod Newcomers
