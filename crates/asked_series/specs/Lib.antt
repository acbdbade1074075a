pub mod Series
pub mod Errors
