pub mod Writing
pub mod Serving
pub mod Reply
pub mod Bounds
pub mod Noting
