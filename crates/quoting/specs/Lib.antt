pub mod Quote
pub mod Reading
