pub mod Whole
pub mod Tested
pub mod OneImage
