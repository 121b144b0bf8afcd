pub mod Coming
pub mod Showing
pub mod Beginning
