pub mod Numbers
pub mod Writes
