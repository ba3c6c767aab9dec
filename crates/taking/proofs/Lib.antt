pub mod Taking
pub mod Progress
