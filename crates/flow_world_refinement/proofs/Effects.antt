pub mod Steadily
pub mod Settling
pub mod Mains
pub mod SamePorts
pub mod Booting
pub mod Doing
pub mod Vanishing
