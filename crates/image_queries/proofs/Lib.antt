pub mod Told
pub mod InForce
pub mod Placed
