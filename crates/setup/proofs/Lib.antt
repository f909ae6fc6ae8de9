pub mod Firsts
pub mod Entries
pub mod Tests
