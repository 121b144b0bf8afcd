pub mod Slots
pub mod Exprs
