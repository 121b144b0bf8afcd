pub mod Counts
pub mod Weight
pub mod Around
pub mod Contexts
pub mod Lowered
pub mod Emitting
