pub mod Figures
pub mod Verdicts
pub mod Inside
pub mod TwoBooks
pub mod Full
pub mod Over
