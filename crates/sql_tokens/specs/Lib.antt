pub mod FirstText
pub mod Places
pub mod Script
pub mod Spelling
pub mod Splitting
pub mod Tokens
