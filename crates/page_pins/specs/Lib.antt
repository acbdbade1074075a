pub mod Boxes
pub mod Replies
pub mod Selectors
