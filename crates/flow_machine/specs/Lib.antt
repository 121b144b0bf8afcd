pub mod Breaking
pub mod Bursts
pub mod Cause
pub mod Hosting
pub mod Requests
pub mod Resting
pub mod Serving
