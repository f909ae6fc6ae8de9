pub mod Eaches
pub mod Parts
