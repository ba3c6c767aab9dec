pub mod Meaning
pub mod Count
pub mod Walk
pub mod Scanned
pub mod Splits
pub mod Regional
