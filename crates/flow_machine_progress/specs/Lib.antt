pub mod Lookups
pub mod Stores
pub mod Actors
pub mod Bursts
