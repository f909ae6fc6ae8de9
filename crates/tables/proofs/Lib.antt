pub mod Words
pub mod Every
pub mod Parts
pub mod Fitting
pub mod Shared
