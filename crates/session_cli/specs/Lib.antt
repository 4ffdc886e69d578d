pub mod Headline
pub mod Turns
pub mod Words
