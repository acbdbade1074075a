pub mod Asking
pub mod Marks
pub mod Faults
pub mod Printing
pub mod States
pub mod Judging
pub mod Running
