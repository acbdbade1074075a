pub mod Listed
pub mod Texts
pub mod Spelled
pub mod Writing
pub mod Finding
pub mod Sets
