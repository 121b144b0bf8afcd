pub mod ReadBack
pub mod Calls
pub mod Laws
pub mod Complete
