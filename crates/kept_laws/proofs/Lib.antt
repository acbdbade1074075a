pub mod Adding
pub mod Cutting
pub mod Deleting
pub mod Holding
pub mod Keeping
pub mod Leaving
pub mod Replaying
