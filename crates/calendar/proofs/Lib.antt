pub mod Table
pub mod Periods
pub mod Lengths
