pub mod Codes
pub mod Decimals
pub mod Reading
pub mod Rounded
pub mod Tenths
