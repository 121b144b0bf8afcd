pub mod Common
pub mod Pinning
pub mod Simpler
pub mod Fewer
pub mod Together
