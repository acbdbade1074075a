pub mod Reading
pub mod Unwritten
