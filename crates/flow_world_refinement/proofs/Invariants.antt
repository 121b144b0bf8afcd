pub mod Timely
pub mod Mid
pub mod Lasting
