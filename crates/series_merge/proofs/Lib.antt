pub mod LaidTimes
pub mod LaidRows
pub mod Contents
pub mod Fronts
pub mod Runs
pub mod Least
pub mod Walks
