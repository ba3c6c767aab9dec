pub mod Numbers
pub mod Demand3
