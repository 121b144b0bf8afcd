pub mod Owns
pub mod Worlds
