pub mod Owners
pub mod Cells
pub mod Works
pub mod Steps
pub mod Events
