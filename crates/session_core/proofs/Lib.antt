mod Nowhere
pub mod Entries
pub mod Steps
