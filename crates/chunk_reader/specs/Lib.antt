pub mod Codes
pub mod Frames
pub mod Grammar
pub mod Outcome
pub mod Reading
