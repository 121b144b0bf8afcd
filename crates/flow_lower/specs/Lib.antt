pub mod Compiled
pub mod Weighing
