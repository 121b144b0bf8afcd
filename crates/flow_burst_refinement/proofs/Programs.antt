pub mod Following
pub mod Goes
