-- The grammar of a picture: an outer element, and elements of five more kinds in it, each with a line of its own.
use Rattle.std.specs.Prelude.{◌≡◌, ℕ, Bool, true, not, ◌&&◌, ◌==◌, List, [], ◌∷◌, ◌++◌, codes, decimal}
use Rattle.std.specs.List.{list_all}

-- a sign of a value that stands between quotes, and of a text
abbrev pub is_of_value : ℕ → Bool
is_of_value b = not (b == 34) && (not (b == 38) && not (b == 60))

abbrev pub is_of_text : ℕ → Bool
is_of_text b = not (b == 38) && (not (b == 60) && not (b == 62))

-- a value: a number, or a word
pub data IsValue : List ℕ → Type 0 where
  number : (n : ℕ) → IsValue (decimal n)
  word : (bytes : List ℕ) → list_all is_of_value bytes ≡ true → IsValue bytes

-- attributes: ` NAME="VALUE"`, each behind a space
pub data AreAttributes : List ℕ → Type 0 where
  no_more : AreAttributes []
  one_more : (name value rest : List ℕ) → list_all is_of_value name ≡ true → IsValue value → AreAttributes rest
      → AreAttributes ((32 ∷ name ++ 61 ∷ 34 ∷ value ++ 34 ∷ []) ++ rest)

-- a text: its signs, of which three stand for themselves by their names
pub data IsText : List ℕ → Type 0 where
  ends : IsText []
  sign : (b : ℕ) (rest : List ℕ) → is_of_text b ≡ true → IsText rest → IsText ((b ∷ []) ++ rest)
  ampersand : (rest : List ℕ) → IsText rest → IsText (codes "&amp;" ++ rest)
  less : (rest : List ℕ) → IsText rest → IsText (codes "&lt;" ++ rest)
  greater : (rest : List ℕ) → IsText rest → IsText (codes "&gt;" ++ rest)

-- the kinds of elements that are empty, and of those that hold a text
pub data IsEmptyTag : List ℕ → Type 0 where
  line : IsEmptyTag (codes "line")
  circle : IsEmptyTag (codes "circle")
  rect : IsEmptyTag (codes "rect")

pub data IsTextTag : List ℕ → Type 0 where
  text : IsTextTag (codes "text")
  style : IsTextTag (codes "style")

-- elements: `<TAG ATTRIBUTES/>` or `<TAG ATTRIBUTES>TEXT</TAG>`, and a line feed
pub data AreElements : List ℕ → Type 0 where
  no_element : AreElements []
  empty : (tag attributes rest : List ℕ) → IsEmptyTag tag → AreAttributes attributes → AreElements rest
      → AreElements (((60 ∷ tag ++ attributes) ++ 47 ∷ 62 ∷ 10 ∷ []) ++ rest)
  holding : (tag attributes content rest : List ℕ) → IsTextTag tag → AreAttributes attributes → IsText content → AreElements rest
      → AreElements (((60 ∷ tag ++ attributes) ++ 62 ∷ content ++ (60 ∷ 47 ∷ tag ++ 62 ∷ 10 ∷ [])) ++ rest)

-- a picture: the outer element around these
pub data IsPicture : List ℕ → Type 0 where
  svg : (attributes elements : List ℕ) → AreAttributes attributes → AreElements elements
      → IsPicture ((60 ∷ codes "svg" ++ attributes) ++ 62 ∷ 10 ∷ elements ++ (60 ∷ 47 ∷ codes "svg" ++ 62 ∷ 10 ∷ []))
