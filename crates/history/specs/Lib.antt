pub mod Steps
pub mod Machine
pub mod Replies
pub mod Asking
pub mod Shown
pub mod Pushing
pub mod Held
