pub mod Desk
pub mod Whole
