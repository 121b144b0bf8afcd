pub mod References
pub mod Standing
pub mod Losing
pub mod Closing
pub mod Taking
pub mod Ending
