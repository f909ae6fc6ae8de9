pub mod Heed
