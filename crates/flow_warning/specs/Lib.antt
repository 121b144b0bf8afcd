pub mod Walks
pub mod Warnings
