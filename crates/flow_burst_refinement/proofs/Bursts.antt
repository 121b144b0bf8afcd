pub mod Ports
pub mod Service
pub mod Standing
pub mod Reached
pub mod Rows
