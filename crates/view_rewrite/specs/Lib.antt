pub mod Changed
pub mod Replaced
