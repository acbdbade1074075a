mod IndexFile
mod BlockFiles
pub mod LongFiles
