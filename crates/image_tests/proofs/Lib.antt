pub mod Lawfulness
pub mod Reachable
