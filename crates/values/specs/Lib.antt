pub mod Same
pub mod Limits
pub mod Blocks
pub mod Paces
pub mod Orders
pub mod Parties
