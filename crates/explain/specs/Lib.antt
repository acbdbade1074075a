pub mod Asking
pub mod Faults
pub mod Series
pub mod Showing
pub mod Running
