pub mod ClassAnswer
pub mod Parts
pub mod Reached
pub mod Rising
pub mod Strays
pub mod Tokens
