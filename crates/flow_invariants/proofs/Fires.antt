pub mod Cells
pub mod Steps
pub mod Brought
pub mod Worlds
