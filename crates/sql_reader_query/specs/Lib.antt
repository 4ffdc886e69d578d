pub mod Changes
pub mod FromClause
pub mod Limits
pub mod Lists
pub mod Names
pub mod Outputs
pub mod Query
pub mod Statements
