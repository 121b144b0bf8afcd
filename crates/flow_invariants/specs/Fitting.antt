pub mod Due
pub mod Among
pub mod Laws
