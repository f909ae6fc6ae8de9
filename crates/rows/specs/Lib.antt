pub mod Meaning
pub mod Votes
pub mod Parties
