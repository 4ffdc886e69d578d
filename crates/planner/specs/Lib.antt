pub mod Above
pub mod Changed
pub mod Conditions
pub mod Scans
pub mod Search
pub mod Served
pub mod Sets
