pub mod Contents
pub mod Loops
pub mod Texts
pub mod Worlds
