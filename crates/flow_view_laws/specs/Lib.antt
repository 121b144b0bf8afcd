pub mod Within
pub mod Told
pub mod Viewed
pub mod Skipped
