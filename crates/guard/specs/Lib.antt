pub mod Hosts
pub mod Judging
pub mod Tokens
