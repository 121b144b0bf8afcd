-- What holds of texts in quotes.
use Rattle.std.specs.List.{AllByRecursion}
use Rattle.std.specs.Prelude.{◌≡◌, ◌^◌, ◌<◌, ◌≤◌, length, ℕ, List, Bool, not, ◌||◌, ◌==◌}
use Rattle.flow_base.specs.Quote.{is_printable, quoted}

-- a byte that isn't spelled as itself between quotes
abbrev pub is_escaped : ℕ → Bool
is_escaped b = not (is_printable b) || b == 34 || b == 92

-- the bytes of a text: at most 65,535, each below 256
abbrev pub IsText : List ℕ → Type 0
IsText bytes = (length bytes ≤ 65535) × AllByRecursion (λ b. b < 2 ^ 8) bytes

-- texts of the same spelling are the same
abbrev pub OneSpellingOfTexts : Type 0
OneSpellingOfTexts = (a b : List ℕ) → IsText a → IsText b → quoted a ≡ quoted b → a ≡ b
