pub mod Actors
pub mod Programs
