pub mod Least
pub mod Changed
