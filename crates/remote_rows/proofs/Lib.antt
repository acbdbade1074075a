pub mod Each
pub mod Adds
pub mod Bodies
