pub mod Lists
pub mod Matched
