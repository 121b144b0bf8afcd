pub mod Heads
pub mod Named
pub mod Filling
pub mod Validity
