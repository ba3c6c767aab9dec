pub mod States
pub mod Parts
pub mod Calls
pub mod Back
pub mod Valid
pub mod Replaced
pub mod Tested
pub mod Telling
