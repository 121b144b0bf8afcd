pub mod Reading
pub mod Deciding
pub mod Judging
pub mod Telling
pub mod Complete
