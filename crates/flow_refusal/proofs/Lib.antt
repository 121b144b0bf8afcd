pub mod Feeds
pub mod Noting
