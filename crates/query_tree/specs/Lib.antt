pub mod Evaluation
pub mod Items
pub mod Targets
pub mod Typing
