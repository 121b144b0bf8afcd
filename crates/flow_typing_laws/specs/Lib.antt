pub mod ControlFlow
pub mod Typing
