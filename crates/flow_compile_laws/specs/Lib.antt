pub mod Simulation
pub mod Traces
pub mod Frames
