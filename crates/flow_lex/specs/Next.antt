-- What one step of the lexer finds where a text goes on.
use Rattle.std.specs.Prelude.{◌≡◌, ℕ, pos, ◌≤◌, ◌<◌, Bool, not, ◌||◌, eqb, List, Result, Ok, Err, Option, Some, None, length, take, drop}
use Rattle.std.specs.Str.Parse.{digits_value}
use Rattle.flow_base.specs.declared.place.Place.{Place}
use Rattle.flow_base.specs.Names.{letter, digit}
use Rattle.flow_tree.specs.declared.token.Token.{Token}
use Rattle.flow_tree.specs.declared.token.Token.TheVariants.{Number}
use Rattle.flow_tree.specs.declared.fault.SourceFault.{SourceFault}
use Rattle.flow_tree.specs.declared.fault.SourceFault.TheVariants.{Refused, AcrossWait, OutOfMemory}
use Rattle.flow_tree.specs.Spelling.{Spells, IsBounded, IsLongest, Piece, NoPiece, Inside}
use Rattle.flow_tree.specs.Lexing.{TokenAt, Refusal, place_after}

-- the first n bytes are the longest spelling, and they spell this token
pub record Found (text : List ℕ) (t : Token) (n : ℕ) : Type 0 where
  pub some : 0 < n
  pub within : n ≤ length text
  pub spelled : Spells t (take n text)
  pub longest : IsLongest n text

-- the number of the first n bytes is the longest spelling
abbrev pub FoundNumber : List ℕ → ℕ → Type 0
FoundNumber text n = Found text (Number (pos (digits_value 10 (take n text)))) n

-- a token within its bounds and its length, or the refusal there
abbrev pub NextAfter : List ℕ → List ℕ → Result (Token × ℕ) SourceFault → Type 0
NextAfter before text (Ok x) = TokenAt text x.0 x.1 × IsBounded x.0 × (0 < x.1)
NextAfter before text (Err (Refused rule p)) = Refusal before text rule p
NextAfter before text (Err (AcrossWait a b c)) = ⊥
NextAfter before text (Err OutOfMemory) = Unit {0}

-- the same at a place, whatever bytes lead to it
abbrev pub Next : List ℕ → Place → Result (Token × ℕ) SourceFault → Type 0
Next text at result = (before : List ℕ) → at ≡ place_after before → NextAfter before text result

-- the byte that a piece spells and the length of its spelling, or no piece begins here
abbrev pub PieceAt : List ℕ → Option (ℕ × ℕ) → Type 0
PieceAt text None = NoPiece text
PieceAt text (Some x) = (0 < x.1) × (x.1 ≤ length text) × Piece (take x.1 text) x.0

-- the bytes that the pieces hold with which a text begins, and the length of their spelling
pub record InsideAt (text held : List ℕ) (n : ℕ) : Type 0 where
  pub within : n ≤ length text
  pub inside : Inside (take n text) held
  pub over : NoPiece (drop n text)

-- a byte that begins no name, number or quoted text
abbrev pub sign_byte : ℕ → Bool
sign_byte b = not (letter b || digit b || eqb b 34)
