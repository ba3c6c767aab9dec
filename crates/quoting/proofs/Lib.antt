pub mod Ranges
pub mod Listed
pub mod Answers
