pub mod Layout
pub mod Image
pub mod Changing
