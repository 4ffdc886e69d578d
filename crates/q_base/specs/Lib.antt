pub mod Counts
pub mod IdLists
pub mod Stops
pub mod Tables
pub mod Texts
