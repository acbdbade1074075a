pub mod Folders
pub mod Hosts
pub mod JournalFile
pub mod JournalLaws
pub mod Rolls
pub mod States
pub mod Sweeping
