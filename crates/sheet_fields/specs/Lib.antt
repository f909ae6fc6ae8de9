pub mod Cuts
pub mod Numbers
pub mod Parties
pub mod Texts
