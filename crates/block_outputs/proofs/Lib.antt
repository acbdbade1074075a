pub mod Counted
pub mod Digits
pub mod Files
pub mod Held
pub mod Lists
pub mod Tiled
pub mod Within
