pub mod Same
pub mod Sources
pub mod Stops
