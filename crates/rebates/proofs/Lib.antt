pub mod Rounded
pub mod Most
pub mod There
pub mod Repaid
pub mod Scanned
pub mod Written
pub mod Answers
