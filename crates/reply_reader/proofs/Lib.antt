pub mod Booleans
pub mod Neighbours
pub mod Replying
pub mod Labelled
pub mod Naming
pub mod Conversions
pub mod UsualTexts
pub mod UsualReplies
