pub mod Storing
pub mod Opening
