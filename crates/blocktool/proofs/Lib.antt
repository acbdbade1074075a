pub mod Between
pub mod Contents
pub mod Given
pub mod Taking
pub mod Told
pub mod Wanted
