pub mod Meaning
pub mod Messages
pub mod Kinds
