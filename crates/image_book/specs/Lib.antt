pub mod Testing
pub mod OneImage
