pub mod AllDoubles
pub mod Fates
