pub mod Memories
pub mod Matching
pub mod Weights
pub mod Carried
