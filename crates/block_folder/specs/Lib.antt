pub mod Blocks
pub mod Meanings
pub mod Steps
pub mod Trees
