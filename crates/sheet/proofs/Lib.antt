pub mod Words
pub mod Ranges
pub mod Bounds
pub mod Round
pub mod CommonFields
