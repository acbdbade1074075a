pub mod Doubles
pub mod Keeping
