pub mod ClassText
pub mod ClassGrammar
