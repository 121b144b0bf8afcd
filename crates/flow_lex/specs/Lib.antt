pub mod Next
pub mod Laws
