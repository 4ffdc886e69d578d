pub mod Grammar
pub mod Commands
pub mod Examples
pub mod Leading
