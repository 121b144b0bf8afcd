pub mod Note
pub mod Refusal
