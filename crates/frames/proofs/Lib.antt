pub mod Back
pub mod Calls
