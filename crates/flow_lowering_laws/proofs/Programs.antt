pub mod Grammar
pub mod Rules
pub mod Whole
