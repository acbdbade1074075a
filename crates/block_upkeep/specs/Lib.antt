pub mod Emptied
pub mod Limits
pub mod Leaving
