pub mod Alteration
pub mod Columns
pub mod Constants
pub mod Creation
pub mod Keywords
pub mod Removal
pub mod Tables
