pub mod Words
pub mod Numerals
