pub mod State
pub mod Referring
pub mod Restoring
pub mod Sound
pub mod Judging
