pub mod Filled
pub mod Keeping
pub mod Numbering
pub mod Ordered
pub mod Placing
pub mod Taking
