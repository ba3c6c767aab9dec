pub mod Sizes
pub mod Commons
pub mod Signs
pub mod Lawful
pub mod Splits
