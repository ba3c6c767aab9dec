pub mod Undone
pub mod Kept
pub mod TakenBack
pub mod TwoRoads
pub mod InForce
pub mod Built
pub mod Exactly
pub mod Placed
