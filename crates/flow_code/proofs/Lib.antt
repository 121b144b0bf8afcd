pub mod Coded
pub mod Fields
pub mod Groups
pub mod Homes
pub mod Paths
pub mod Resolved
