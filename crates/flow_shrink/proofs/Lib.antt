pub mod Removing
pub mod Passing
