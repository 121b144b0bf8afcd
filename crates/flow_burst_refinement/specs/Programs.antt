pub mod Delivering
pub mod Goes
