pub mod Asking
pub mod Farther
pub mod Heads
pub mod Once
pub mod Replies
pub mod Sequences
