pub mod Lists
pub mod Objects
pub mod MergedAnswers
pub mod OnePart
pub mod Headlines
pub mod Runs
pub mod Crossing
