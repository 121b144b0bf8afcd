pub mod Reached
pub mod Placed
pub mod AllKinds
