pub mod Encoded
pub mod Running
