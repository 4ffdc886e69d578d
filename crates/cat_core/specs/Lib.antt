pub mod Ages
pub mod Finding
pub mod Objects
pub mod Stamps
pub mod Steps
