pub mod Classes
pub mod View
pub mod Places
pub mod Code
pub mod Scopes
