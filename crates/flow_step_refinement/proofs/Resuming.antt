pub mod Aside
pub mod Framed
pub mod Steps
pub mod Tasks
pub mod Next
pub mod Branches
