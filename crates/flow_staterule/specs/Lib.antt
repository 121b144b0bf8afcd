pub mod Ways
pub mod Uses
pub mod View
pub mod StateRule
pub mod Answer
