pub mod Growing
pub mod Placing
pub mod Rising
pub mod Taking
pub mod Parts
pub mod Apart
pub mod Gathering
pub mod Bearing
