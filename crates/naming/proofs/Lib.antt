pub mod Names
pub mod Counts
