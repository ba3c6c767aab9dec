pub mod Cap
pub mod Deciding
pub mod Decided
pub mod Corners
