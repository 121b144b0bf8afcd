pub mod Lines
pub mod Printing
pub mod Ranges
pub mod ReadBack
pub mod Scanning
pub mod Texts
