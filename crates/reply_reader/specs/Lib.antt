pub mod Replies
pub mod Errors
pub mod Read
pub mod Usual
