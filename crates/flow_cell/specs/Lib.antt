pub mod Cells
pub mod Waiting
pub mod Lines
pub mod Seen
