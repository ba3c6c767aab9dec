pub mod Calls
pub mod Checks
pub mod Book
pub mod Promises
pub mod Settling
