pub mod Told
pub mod Drops
pub mod Puts
pub mod Losses
pub mod Noted
