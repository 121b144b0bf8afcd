pub mod Ports
pub mod Next
pub mod Allowing
