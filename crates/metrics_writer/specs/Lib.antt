pub mod Doubles
pub mod Groups
pub mod Numbers
pub mod Series
pub mod Texts
