pub mod Fields
pub mod Framing
pub mod Coming
pub mod Attending
