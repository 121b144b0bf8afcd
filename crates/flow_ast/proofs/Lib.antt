pub mod TypingLists
pub mod TypingScope
pub mod TypingArgs
pub mod Written
