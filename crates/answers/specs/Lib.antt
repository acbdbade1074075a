pub mod Body
pub mod AfterCommas
pub mod MergedRows
pub mod Audited
pub mod Headline
pub mod Refusals
pub mod Joined
pub mod Kept
