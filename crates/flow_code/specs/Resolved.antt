pub mod Evaluation
pub mod Named
pub mod Resolving
pub mod Tree
pub mod Truth
pub mod View
