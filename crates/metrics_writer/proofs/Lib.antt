pub mod Grouping
pub mod Loops
pub mod Joining
