-- The tokens of a text, and its lexical refusal.
use Rattle.std.specs.Prelude.{◌≡◌, ℕ, ◌+◌, ◌≤◌, ◌<◌, false, true, List, [], ◌∷◌, ◌++◌, length, take, drop, reverse, count_by, Result, Ok, Err}
use Rattle.std.specs.List.{prefix_len}
use Rattle.std.specs.Prelude.{eqb}
use Rattle.flow_base.specs.declared.place.Place.{Place}
use Rattle.flow_tree.specs.declared.token.Token.{Token}
use Rattle.flow_tree.specs.declared.token.Spot.{Spot}
use Rattle.flow_tree.specs.declared.token.Tokens.{Tokens}
use Rattle.flow_tree.specs.declared.fault.SourceFault.{SourceFault}
use Rattle.flow_tree.specs.declared.fault.SourceFault.TheVariants.{Refused, AcrossWait, OutOfMemory}
use Rattle.flow_tree.specs.declared.fault.Rule.{Rule}
use Rattle.flow_tree.specs.declared.fault.Rule.TheVariants.{S}
use Rattle.flow_tree.specs.Spelling.{Spells, IsBounded, IsLongest, Inside, NoPiece, in_line, begins_gap, gap_length}

-- the place after these bytes: lines count line feeds, columns count bytes since the last one
abbrev pub place_after : List ℕ → Place
place_after before = record {
  line = count_by (λ b. eqb b 10) before + 1;
  column = prefix_len in_line (reverse before) + 1;
  byte = length before;
}

-- the first n bytes are the longest spelling that begins here, and they spell this token
pub record TokenAt (text : List ℕ) (t : Token) (n : ℕ) : Type 0 where
  pub apart : begins_gap text ≡ false
  pub within : n ≤ length text
  pub spelled : Spells t (take n text)
  pub longest : IsLongest n text

-- Reading on: after the bytes `before`, with `text` left, whole gaps and tokens lead to a place further
-- on; the tokens have these places.
pub data ReadsTokens : (before text : List ℕ) → List Spot → (before' text' : List ℕ) → Type 0 where
  here : {before text : List ℕ} → ReadsTokens before text [] before text
  gap : {before text before' text' : List ℕ} {spots : List Spot} → 0 < gap_length text
      → ReadsTokens (before ++ take (gap_length text) text) (drop (gap_length text) text) spots before' text'
      → ReadsTokens before text spots before' text'
  token : {before text before' text' : List ℕ} {spots : List Spot} → (t : Token) (n : ℕ) → TokenAt text t n → IsBounded t
      → ReadsTokens (before ++ take n text) (drop n text) spots before' text'
      → ReadsTokens before text (record { token = t; at = place_after before } ∷ spots) before' text'

-- The bytes are gaps and spellings in turn, each spelling the longest that begins there and within its
-- bounds; these are the tokens with their places, and the place after the last byte.
pub record Lexes (bytes : List ℕ) (spots : List Spot) (end : Place) : Type 0 where
  pub reads : ReadsTokens [] bytes spots bytes []
  pub ends : end ≡ place_after bytes

-- the text is over, or a line ends
abbrev pub EndsLine : List ℕ → Type 0
EndsLine [] = Unit {0}
EndsLine (b ∷ w) = b ≡ 10

-- what a quoted text can neither hold nor end with stands first
abbrev pub Cannot : List ℕ → Type 0
Cannot [] = ⊥
Cannot (b ∷ w) = (b ≡ 10 → ⊥) × (b ≡ 34 → ⊥) × NoPiece (b ∷ w)

-- a comment opens and is nowhere closed
abbrev pub IsOpenComment : List ℕ → Type 0
IsOpenComment text = (begins_gap text ≡ true) × (gap_length text ≡ 0)

-- Why no token is read where `text` is left after the bytes `before`, and the place that is named.
pub data Refusal (before text : List ℕ) : Rule → Place → Type 0 where
  -- a byte that begins no token
  bad_byte : (b : ℕ) (rest : List ℕ) → text ≡ b ∷ rest → begins_gap text ≡ false → (b ≡ 34 → ⊥) → IsLongest 0 text
      → Refusal before text (S 1) (place_after before)
  -- a byte or an escape that a quoted text may not hold
  bad_inside : (inside held rest : List ℕ) → text ≡ 34 ∷ (inside ++ rest) → Inside inside held → Cannot rest
      → Refusal before text (S 1) (place_after (before ++ 34 ∷ inside))
  -- a quoted text that its line doesn't close
  open_text : (inside held rest : List ℕ) → text ≡ 34 ∷ (inside ++ rest) → Inside inside held → EndsLine rest
      → Refusal before text (S 2) (place_after before)
  open_comment : IsOpenComment text → Refusal before text (S 3) (place_after before)
  -- a spelling that passes its bounds
  too_big : (t : Token) (n : ℕ) → TokenAt text t n → (IsBounded t → ⊥) → Refusal before text (S 4) (place_after before)

-- the lexical refusal of a text: at the first place, after whole gaps and tokens, where neither can be read
pub record LexFault (bytes : List ℕ) (rule : Rule) (at : Place) : Type 0 where
  pub spots : List Spot
  pub before : List ℕ
  pub text : List ℕ
  pub reads : ReadsTokens [] bytes spots before text
  pub refused : Refusal before text rule at

-- what reading a text answers: its tokens, or its lexical refusal
abbrev pub Lexed : List ℕ → Result Tokens SourceFault → Type 0
Lexed bytes (Ok tokens) = Lexes bytes tokens.spots.items tokens.end
Lexed bytes (Err (Refused rule at)) = LexFault bytes rule at
Lexed bytes (Err (AcrossWait at declared wait)) = ⊥
Lexed bytes (Err OutOfMemory) = Unit {0}
