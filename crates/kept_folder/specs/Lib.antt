pub mod Heads
pub mod Folders
