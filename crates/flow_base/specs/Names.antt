-- The form of names and of decimal numbers.
use Rattle.std.specs.Prelude.{ℕ, ◌≤◌, ◌+◌, ◌*◌, ◌-◌, Bool, false, not, ◌&&◌, ◌||◌, ◌==◌, nat_le, eqb, List, [], ◌∷◌, length, IsTrue}
use Rattle.std.specs.List.{list_all}

-- an ASCII letter or an underscore
abbrev pub letter : ℕ → Bool
letter b = (nat_le 97 b && nat_le b 122) || (nat_le 65 b && nat_le b 90) || eqb b 95

-- a decimal digit
abbrev pub digit : ℕ → Bool
digit b = nat_le 48 b && nat_le b 57

-- what may follow in a name
abbrev pub name_byte : ℕ → Bool
name_byte b = letter b || digit b

-- a letter, and then letters and digits
abbrev pub is_name_text : List ℕ → Bool
is_name_text [] = false
is_name_text (b ∷ w) = letter b && list_all name_byte w

-- the form of a name, and at most 255 bytes
pub record IsName (bytes : List ℕ) : Type 0 where
  pub form : IsTrue (is_name_text bytes)
  pub short : length bytes ≤ 255

-- one or more decimal digits
abbrev pub are_digits : List ℕ → Bool
are_digits ds = not (length ds == 0) && list_all digit ds

-- the number that decimal digits spell, after what was read before
abbrev pub digits_from : ℕ → List ℕ → ℕ
digits_from n [] = n
digits_from n (d ∷ ds) = digits_from (n * 10 + (d - 48)) ds
