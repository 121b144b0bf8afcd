pub mod Once
pub mod Versions
pub mod Written
pub mod Whole
pub mod ReadBack
