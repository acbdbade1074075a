pub mod Columns
pub mod Figures
pub mod Gathering
pub mod Pages
pub mod Tables
pub mod Tallies
pub mod Tiles
pub mod Values
