pub mod Figures
pub mod Table
