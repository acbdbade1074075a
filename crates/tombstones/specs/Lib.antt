pub mod Codes
pub mod Covering
pub mod Grammar
pub mod Order
pub mod Outcome
pub mod Reading
