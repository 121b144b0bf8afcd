pub mod Locals
pub mod Laying
