pub mod Requests
pub mod Examples
