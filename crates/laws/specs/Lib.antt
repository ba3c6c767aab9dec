pub mod Notions
pub mod Greatest
pub mod Least
