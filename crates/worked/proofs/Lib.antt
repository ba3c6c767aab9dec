pub mod October
pub mod Lists
