pub mod Firsts
pub mod Within
