pub mod Heaps
pub mod Worlds
pub mod Restored
pub mod Resumed
pub mod Skipped
