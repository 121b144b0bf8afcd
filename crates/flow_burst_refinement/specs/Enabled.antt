pub mod Allowing
pub mod Tasking
