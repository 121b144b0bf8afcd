pub mod Apps
pub mod Wants
pub mod Asked
