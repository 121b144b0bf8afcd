pub mod Lines
pub mod Directives
pub mod Worlds
pub mod Faults
pub mod Reading
pub mod Drafts
pub mod Laws
