-- The lines of a text, and the fields of a line.
use Rattle.std.specs.Prelude.{ℕ, Bool, true, ◌&&◌, ◌==◌, nat_lt, nat_le, if◌then◌else◌, List, [], ◌∷◌, length, map, filter, slice_index, IsTrue}
use Rattle.std.specs.List.{slice_split, list_all}
use Rattle.std.specs.Char.{is_ascii_digit}
use Rattle.std.specs.Str.Parse.{digits_value}
use Rattle.std.specs.Str.Lines as str

-- The lines of a text end with a line feed, and a carriage return before it is dropped. The last line
-- may lack the line feed, and nothing is dropped then.
abbrev pub lines : List ℕ → List (List ℕ)
lines = str.lines

-- what stands between the spaces of a line: its fields, as bytes
abbrev pub pieces : List ℕ → List (List ℕ)
pieces line = filter (λ piece. nat_lt 0 (length piece)) (slice_split (λ b. b == 32) line)

-- a field is a number or another text
pub data Field : Type 0 where
  text : List ℕ → Field
  number : ℕ → Field

-- a number has 1 to 20 decimal digits
abbrev pub is_number : List ℕ → Bool
is_number bytes = nat_lt 0 (length bytes) && nat_le (length bytes) 20 && list_all is_ascii_digit bytes

-- what the bytes of a field are
abbrev pub field_of : List ℕ → Field
field_of bytes = if is_number bytes then number (digits_value 10 bytes) else text bytes

-- the fields of a line
abbrev pub fields : List ℕ → List Field
fields line = map field_of (pieces line)

-- there is no field, or the first begins with `#`
abbrev pub begins_comment : List (List ℕ) → Bool
begins_comment [] = true
begins_comment (piece ∷ more) = slice_index piece 0 == 35

-- a line of spaces alone, and one whose first byte that is no space is `#`, is passed over
abbrev pub IsPassedOver : List ℕ → Type 0
IsPassedOver line = IsTrue (begins_comment (pieces line))
