pub mod Graph
pub mod Control
pub mod Mentions
pub mod Laws
