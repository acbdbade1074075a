pub mod Batches
pub mod Framing
pub mod Places
pub mod Rising
pub mod SampleTexts
pub mod Spans
pub mod Stored
pub mod Whole
