pub mod InnerLines
pub mod EventLines
pub mod Cutting
pub mod Cuts
