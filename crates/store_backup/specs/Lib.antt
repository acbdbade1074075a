pub mod Copies
pub mod Reading
pub mod Tries
