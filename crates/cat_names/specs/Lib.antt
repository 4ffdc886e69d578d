pub mod Lookup
pub mod Paths
