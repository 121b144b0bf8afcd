pub mod Shrinking
pub mod Editing
