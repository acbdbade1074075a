pub mod Logged
pub mod LoggedLaws
