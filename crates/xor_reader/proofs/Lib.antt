pub mod Again
pub mod Bytes
pub mod Fields
pub mod Paddings
pub mod Steps
pub mod Taken
pub mod Takes
