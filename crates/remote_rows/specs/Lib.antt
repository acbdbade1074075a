pub mod Sent
pub mod Adding
