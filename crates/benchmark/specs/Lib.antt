pub mod Benchmark
pub mod Common
pub mod Signs
pub mod Lawful
