pub mod Told
pub mod Alike
pub mod Recorded
pub mod Opening
pub mod Fitting
pub mod Stepped
