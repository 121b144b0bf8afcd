pub mod Saved
pub mod Requests
pub mod CanResume
