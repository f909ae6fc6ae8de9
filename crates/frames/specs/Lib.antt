pub mod Faults
pub mod Frames
pub mod Answers
pub mod Figures
