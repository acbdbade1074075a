pub mod Codes
pub mod Format
pub mod Reading
