pub mod Blocks
pub mod Windows
pub mod Neighbours
pub mod Expiry
