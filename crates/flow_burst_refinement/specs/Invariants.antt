pub mod Invariant
pub mod Allowed
pub mod Staying
