pub mod Capped
pub mod Costs
pub mod Estimates
pub mod Tests
