pub mod Meaning
pub mod Order
