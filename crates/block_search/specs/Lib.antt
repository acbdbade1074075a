pub mod Answering
pub mod Skipping
pub mod Places
pub mod Answers
pub mod Telling
pub mod Answered
