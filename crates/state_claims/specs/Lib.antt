pub mod Claiming
pub mod Said
