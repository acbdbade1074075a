pub mod Firsts
pub mod Searching
