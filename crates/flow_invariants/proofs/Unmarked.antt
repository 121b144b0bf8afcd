pub mod Acts
pub mod Brought
pub mod Groups
pub mod Resting
pub mod Steady
pub mod Steps
pub mod Worlds
