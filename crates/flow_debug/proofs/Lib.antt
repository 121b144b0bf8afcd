pub mod Variables
pub mod Writing
