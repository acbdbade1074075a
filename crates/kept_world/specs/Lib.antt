pub mod States
pub mod Births
pub mod Sound
pub mod Changes
