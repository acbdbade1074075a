pub mod Asking
pub mod Faults
pub mod Reading
pub mod Walking
pub mod Auditing
pub mod Running
