pub mod Sources
pub mod Targets
pub mod Views
