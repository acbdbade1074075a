pub mod OverStore
pub mod RightReplies
pub mod Unwritten
