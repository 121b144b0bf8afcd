pub mod Chains
pub mod RowLemmas
pub mod Things
pub mod Above
