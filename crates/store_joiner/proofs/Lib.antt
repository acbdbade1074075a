pub mod Adds
pub mod Changing
pub mod Joins
pub mod Says
pub mod Starting
pub mod Stores
