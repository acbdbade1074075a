pub mod Growth
pub mod Searches
