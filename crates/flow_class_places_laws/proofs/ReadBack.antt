-- Class text is read back from the canonical text of what it derives.
pub mod Pieces
pub mod Values
pub mod Classes
pub mod Texts
