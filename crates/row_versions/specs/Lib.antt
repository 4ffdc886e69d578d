pub mod Marks
pub mod Sound
pub mod State
pub mod Stored
pub mod Versions
