pub mod Bools
pub mod Growing
pub mod MemoryFiles
pub mod Reading
