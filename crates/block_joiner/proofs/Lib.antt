pub mod Held
pub mod NoSamples
