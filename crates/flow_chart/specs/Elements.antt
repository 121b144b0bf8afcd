-- The elements of a picture, and how they are written.
use Rattle.std.specs.Prelude.{ℕ, ◌==◌, List, [], ◌∷◌, ◌++◌, codes, if◌then◌else◌}
use Rattle.std.specs.List.{flat_map}

-- an attribute: its name and its value
pub record Attribute : Type 0 where
  pub name : List ℕ
  pub value : List ℕ

abbrev pub attribute_bytes : Attribute → List ℕ
attribute_bytes a = 32 ∷ a.name ++ 61 ∷ 34 ∷ a.value ++ 34 ∷ []

-- a sign of a text that isn't written as it is
abbrev pub escaped_byte : ℕ → List ℕ
escaped_byte b =
    if b == 38 then codes "&amp;" else if b == 60 then codes "&lt;" else if b == 62 then codes "&gt;" else b ∷ []

abbrev pub escaped : List ℕ → List ℕ
escaped text = flat_map escaped_byte text

-- an element that is empty, or holds a text
pub data Element : Type 0 where
  Empty : (tag : List ℕ) → List Attribute → Element
  Holding : (tag : List ℕ) → List Attribute → (text : List ℕ) → Element

-- `<TAG ATTRIBUTES`
abbrev pub opening : (tag : List ℕ) → List Attribute → List ℕ
opening tag attributes = 60 ∷ tag ++ flat_map attribute_bytes attributes

abbrev pub closing : (tag : List ℕ) → List ℕ
closing tag = 60 ∷ 47 ∷ tag ++ 62 ∷ 10 ∷ []

-- each element has a line
abbrev pub element_bytes : Element → List ℕ
element_bytes (Empty tag attributes) = opening tag attributes ++ 47 ∷ 62 ∷ 10 ∷ []
element_bytes (Holding tag attributes text) = opening tag attributes ++ 62 ∷ escaped text ++ closing tag

-- elements within an outer one
abbrev pub document : (tag : List ℕ) → List Attribute → List Element → List ℕ
document tag attributes elements =
    opening tag attributes ++ 62 ∷ 10 ∷ flat_map element_bytes elements ++ closing tag
