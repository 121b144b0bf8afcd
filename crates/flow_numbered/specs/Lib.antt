pub mod Links
pub mod Lists
pub mod Numbered
pub mod Rows
pub mod Lending
