pub mod Deciding
pub mod Shrinking
pub mod Runs
pub mod Finding
