pub mod Outcome
pub mod Reading
pub mod Saved
pub mod Spelling
pub mod Views
