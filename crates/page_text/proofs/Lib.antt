pub mod Growth
pub mod Nested
