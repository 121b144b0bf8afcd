pub mod Losses
pub mod Naming
pub mod Overlays
pub mod Whole
