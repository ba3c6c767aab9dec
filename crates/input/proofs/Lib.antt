pub mod Between
pub mod Kept
