pub mod Answered
pub mod MergedRows
pub mod Indexed
pub mod Walked
pub mod Named
pub mod Flawless
