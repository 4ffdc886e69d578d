pub mod Answers
pub mod Arguments
pub mod Machine
pub mod Prepared
pub mod Seen
pub mod Settings
pub mod State
