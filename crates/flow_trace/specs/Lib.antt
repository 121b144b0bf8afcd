pub mod Bytes
pub mod Groups
pub mod Out
pub mod Pieces
pub mod Quote
pub mod Reading
pub mod Scan
