pub mod Packed
pub mod Chunks
