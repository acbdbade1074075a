pub mod Begun
pub mod Covers
pub mod Joins
pub mod Loops
pub mod Reaches
pub mod Whole
