pub mod Multiples
pub mod Sums
pub mod Runs
pub mod Spans
pub mod Pairs
pub mod Few
pub mod Ends
