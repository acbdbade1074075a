pub mod Faults
pub mod Reading
pub mod Refusing
pub mod Rows
pub mod Runs
pub mod Series
pub mod Values
