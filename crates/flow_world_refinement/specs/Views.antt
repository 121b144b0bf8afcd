pub mod Waiting
pub mod Views
pub mod Reports
pub mod FrameLines
