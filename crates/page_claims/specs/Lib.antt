pub mod Asking
pub mod Checking
pub mod Claiming
pub mod Counting
pub mod Figuring
pub mod Judging
