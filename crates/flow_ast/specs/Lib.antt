pub mod TypingNames
pub mod Typing
pub mod TypingView
pub mod Slots
pub mod Leaving
pub mod Fits
