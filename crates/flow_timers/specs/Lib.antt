pub mod Moments
pub mod Pending
