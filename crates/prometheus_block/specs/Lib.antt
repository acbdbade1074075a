pub mod Codes
pub mod Narrowing
pub mod Outcome
pub mod Reading
pub mod Rows
pub mod Series
