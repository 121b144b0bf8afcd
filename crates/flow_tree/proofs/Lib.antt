pub mod Views
pub mod GrammarLists
pub mod Folds
pub mod Formed
pub mod ForParts
