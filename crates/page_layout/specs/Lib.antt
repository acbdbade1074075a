pub mod Columns
pub mod Layers
