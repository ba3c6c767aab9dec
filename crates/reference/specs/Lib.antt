pub mod SheetS
pub mod Starred
pub mod Savings
pub mod Splits
pub mod Regional
