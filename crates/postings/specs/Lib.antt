pub mod Values
pub mod Differing
pub mod Laws
pub mod Standing
