pub mod InForce
pub mod Ranges
pub mod Answers
