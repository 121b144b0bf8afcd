pub mod Going
pub mod One
pub mod Making
pub mod Loops
pub mod Seeds
mod Counting
