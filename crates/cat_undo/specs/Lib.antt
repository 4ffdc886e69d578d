pub mod Marked
pub mod Restored
pub mod Store
