pub mod Least
pub mod Known
pub mod Judged
pub mod Items
pub mod Closing
pub mod Rules
