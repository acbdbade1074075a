pub mod Written
pub mod Replying
pub mod Fitting
