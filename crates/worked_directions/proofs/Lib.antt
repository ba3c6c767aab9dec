pub mod Directions
pub mod Rebates
