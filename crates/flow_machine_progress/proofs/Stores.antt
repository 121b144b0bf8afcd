pub mod Beside
pub mod Steps
pub mod Tasks
pub mod Served
