pub mod Queried
pub mod Tried
