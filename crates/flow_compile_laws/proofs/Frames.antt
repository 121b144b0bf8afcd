pub mod Traces
pub mod Alike
