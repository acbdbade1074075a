pub mod Locals
pub mod Loops
pub mod Writes
