pub mod Order
pub mod Effects
pub mod Events
pub mod Invariants
pub mod Traces
pub mod Views
