pub mod Blocks
pub mod Cursors
pub mod Keywords
pub mod Lines
pub mod Motions
pub mod Numbers
pub mod Prepared
pub mod Settings
