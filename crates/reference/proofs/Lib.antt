pub mod Scanning
pub mod Figures
pub mod Table
pub mod Savings
pub mod Splits
pub mod Regional
