pub mod Blocks
pub mod Choices
pub mod Given
pub mod Leads
pub mod Settings
pub mod Shown
pub mod Values
