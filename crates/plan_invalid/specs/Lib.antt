pub mod Index
pub mod Sources
