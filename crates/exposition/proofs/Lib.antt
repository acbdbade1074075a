pub mod AllLines
pub mod Endings
pub mod Only
pub mod Orders
pub mod Places
pub mod Puts
pub mod Refusals
