pub mod Cut
pub mod Parts
pub mod Actions
pub mod Events
pub mod Exact
pub mod Rests
