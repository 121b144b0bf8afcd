pub mod Heap
pub mod Dropping
pub mod Leaving
pub mod Actors
pub mod Lending
