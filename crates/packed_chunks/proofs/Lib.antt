pub mod Bits
pub mod Crossing
pub mod Moving
pub mod Passed
pub mod Placing
pub mod RowLaws
