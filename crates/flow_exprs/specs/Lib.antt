pub mod Kinds
pub mod Machine
pub mod Answer
pub mod TypeMachine
pub mod TypeAnswer
pub mod Laws
