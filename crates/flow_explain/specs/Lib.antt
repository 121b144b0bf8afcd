pub mod Texts
pub mod Living
pub mod Phrases
pub mod Pieces
pub mod Words
pub mod Writing
pub mod Laws
