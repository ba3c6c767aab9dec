pub mod Cells
pub mod Rulings
