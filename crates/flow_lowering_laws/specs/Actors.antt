pub mod Parts
pub mod InPlace
pub mod Laws
