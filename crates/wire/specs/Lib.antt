pub mod Checksum
pub mod Codes
pub mod Outcome
pub mod Reading
pub mod Spelling
