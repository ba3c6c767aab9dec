pub mod Registers
pub mod TariffTiers
pub mod Months
