pub mod Seen
pub mod Waits
pub mod Views
pub mod ViewText
pub mod Told
pub mod Writing
pub mod SourceView
