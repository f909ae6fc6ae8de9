pub mod Sheets
pub mod Plans
pub mod Answers
