pub mod Next
pub mod Scripts
pub mod Started
