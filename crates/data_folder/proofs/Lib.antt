pub mod Foreign
pub mod Moments
pub mod Rolls
pub mod Sweeps
