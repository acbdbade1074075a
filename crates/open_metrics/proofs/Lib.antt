pub mod Again
pub mod Items
pub mod Taken
pub mod Whole
pub mod Words
