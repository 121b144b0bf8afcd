-- Texts in quotes, with one spelling each.
use Rattle.std.specs.Prelude.{ℕ, ◌+◌, ◌/◌, ◌%◌, Bool, ◌&&◌, ◌==◌, nat_lt, nat_le, List, [], ◌∷◌, ◌++◌, if◌then◌else◌}

-- a hexadecimal digit, in lower case
abbrev pub hex_digit : ℕ → ℕ
hex_digit d = if nat_lt d 10 then 48 + d else 87 + d

-- a byte that stands for itself between quotes, quote and backslash aside
abbrev pub is_printable : ℕ → Bool
is_printable b = nat_le 32 b && nat_le b 126

-- how a byte is spelled between quotes: \n, \t, \", \\, itself, or \x with two digits
abbrev pub spelled_byte : ℕ → List ℕ
spelled_byte b =
    if b == 10 then 92 ∷ 110 ∷ []
    else if b == 9 then 92 ∷ 116 ∷ []
    else if b == 34 then 92 ∷ 34 ∷ []
    else if b == 92 then 92 ∷ 92 ∷ []
    else if is_printable b then b ∷ []
    else 92 ∷ 120 ∷ hex_digit (b / 16) ∷ hex_digit (b % 16) ∷ []

-- the bytes of a text, spelled one after another
abbrev pub spelled_text : List ℕ → List ℕ
spelled_text [] = []
spelled_text (b ∷ bs) = spelled_byte b ++ spelled_text bs

-- a text in quotes
abbrev pub quoted : List ℕ → List ℕ
quoted text = 34 ∷ spelled_text text ++ 34 ∷ []
