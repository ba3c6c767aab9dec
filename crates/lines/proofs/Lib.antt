pub mod Splitting
pub mod Reading
pub mod Parts
