pub mod CommandLines
pub mod FirstUnread
pub mod WholeFiles
pub mod Directories
pub mod Endings
pub mod Reading
