pub mod Adds
pub mod Finds
pub mod Joins
pub mod Stores
