pub mod Traced
pub mod Quiet
