pub mod Invariants
pub mod Enabled
pub mod Boundaries
pub mod Bursts
pub mod Requests
pub mod Programs
