pub mod Desks
pub mod Apart
