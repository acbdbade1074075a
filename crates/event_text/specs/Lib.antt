pub mod Codes
pub mod Neighbours
pub mod Outcome
pub mod Reading
pub mod Runs
pub mod Spelling
pub mod Views
