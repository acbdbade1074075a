pub mod Contents
pub mod Joined
pub mod Names
pub mod Tiles
pub mod Writing
