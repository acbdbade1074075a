pub mod Accepted
pub mod Again
pub mod Histories
pub mod Moves
