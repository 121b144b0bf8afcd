pub mod Rest
pub mod States
