pub mod Boundaries
pub mod Delivering
