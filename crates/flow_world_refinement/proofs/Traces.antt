pub mod Codes
pub mod Onwards
pub mod Whole
pub mod Quietly
