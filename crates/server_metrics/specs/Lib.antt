pub mod Bounds
pub mod Counting
pub mod Families
pub mod Names
pub mod Numbers
pub mod Rows
