pub mod Folds
pub mod Found
pub mod TextSets
pub mod Written
pub mod InOrder
