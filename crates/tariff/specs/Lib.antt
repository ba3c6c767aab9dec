pub mod Tariff
