pub mod Ends
pub mod Shown
pub mod Stacks
pub mod Steps
pub mod Sums
