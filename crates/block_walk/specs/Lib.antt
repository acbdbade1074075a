pub mod IndexFile
pub mod WalkCodes
pub mod BlockFiles
