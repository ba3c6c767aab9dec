pub mod Rebates
pub mod Repaid
pub mod Reading
