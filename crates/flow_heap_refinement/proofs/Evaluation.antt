pub mod Answering
pub mod Names
