pub mod Booting
pub mod Boundary
pub mod Counted
