pub mod Places
pub mod Accepted
pub mod Steps
pub mod OnePlace
pub mod Reached
pub mod Desks
