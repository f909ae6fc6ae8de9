pub mod Counts
pub mod Quorums
pub mod Worked
pub mod Largest
pub mod Sent
pub mod Few
pub mod Ranges
pub mod Once
