pub mod Course
pub mod Joins
pub mod Pieces
pub mod Runs
pub mod WordsLemmas
