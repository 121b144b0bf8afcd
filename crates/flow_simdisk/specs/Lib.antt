pub mod Asks
pub mod Disk
pub mod Stored
