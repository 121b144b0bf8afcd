pub mod Boots
pub mod Onwards
pub mod Rests
pub mod Worlds
pub mod Counted
