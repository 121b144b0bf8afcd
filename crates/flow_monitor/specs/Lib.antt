pub mod Attaching
pub mod Cut
pub mod Ears
pub mod Heard
pub mod Shipped
