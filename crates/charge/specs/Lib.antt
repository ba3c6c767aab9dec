pub mod Charge
pub mod Most
pub mod Tiers
