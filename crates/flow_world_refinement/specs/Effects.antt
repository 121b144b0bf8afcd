pub mod Actions
pub mod Quiescence
pub mod Vanishing
