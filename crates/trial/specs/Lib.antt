pub mod Trial
pub mod Places
