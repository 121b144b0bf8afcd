pub mod Queues
pub mod Lines
pub mod SeenLemmas
pub mod Places
