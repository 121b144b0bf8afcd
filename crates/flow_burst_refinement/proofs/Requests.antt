pub mod Changing
pub mod Remaining
pub mod Worlds
pub mod Answers
pub mod Allowed
