pub mod Errors
pub mod Finding
pub mod Together
