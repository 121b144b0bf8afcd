mod Collecting
mod Weights
