pub mod Ring
pub mod Calls
pub mod Runs
pub mod Counts
pub mod Examples
