pub mod Trials
pub mod InForce
pub mod Splits
