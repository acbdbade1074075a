pub mod Auditing
pub mod Looking
pub mod Listing
pub mod Errors
pub mod Judgements
