pub mod Search
pub mod Choosing
pub mod Heaped
