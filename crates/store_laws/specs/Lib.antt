pub mod Machine
pub mod Starts
