pub mod Cuts
pub mod Entries
pub mod Leads
pub mod Order
pub mod Ranges
