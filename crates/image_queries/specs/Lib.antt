pub mod Tells
pub mod Reading
