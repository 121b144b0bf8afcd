pub mod Dividing
pub mod WithWords
pub mod Weights
pub mod Edited
