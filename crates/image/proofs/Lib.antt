pub mod Writing
pub mod Each
pub mod Reading
pub mod Places
pub mod Books
pub mod Placing
pub mod Fresh
