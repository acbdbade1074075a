pub mod Bits
pub mod Codes
pub mod Grammar
pub mod Outcome
pub mod Reading
