pub mod Sessions
pub mod Working
pub mod Shifts
pub mod Counting
pub mod Status
pub mod Faults
pub mod Receiving
