pub mod Answers
pub mod Conversions
pub mod Feed
pub mod Order
pub mod Parse
pub mod Print
pub mod Values
