pub mod Samples
pub mod Sound
pub mod Reading
pub mod Spelled
pub mod Outcome
pub mod Checks
pub mod Shared
