pub mod Pushes
pub mod Laying
pub mod Listing
pub mod Keeping
pub mod Replying
