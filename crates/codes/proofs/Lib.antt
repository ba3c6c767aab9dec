pub mod Answers
pub mod Handed
pub mod Places
