-- Edits that make a world simpler: a line of the script goes, or a word becomes the common one.
use Rattle.std.specs.Prelude.{ℕ, zero, suc, ◌+◌, ◌-◌, nat_eq, nat_lt, List, [], ◌∷◌, length, set, if◌then◌else◌}
use Rattle.std.specs.List.{remove}
use Rattle.flow_worldfile.specs.Worlds.{World}
use Rattle.flow_shrink.specs.Editing.{Edit}

-- one, where a word isn't the common one
abbrev pub weight : (common word : ℕ) → ℕ
weight common word = if nat_eq word common then 0 else 1

-- how many words aren't
abbrev pub uncommon : (common : ℕ) → List ℕ → ℕ
uncommon common [] = 0
uncommon common (word ∷ words) = weight common word + uncommon common words

-- where the uncommon word of this number stands, from 0
abbrev pub place_of : (common number : ℕ) → List ℕ → ℕ
place_of common k [] = 0
place_of common zero (word ∷ words) = if nat_eq word common then suc (place_of common zero words) else 0
place_of common (suc k) (word ∷ words) =
    if nat_eq word common then suc (place_of common (suc k) words) else suc (place_of common k words)

-- the words with that one made common
abbrev pub made_common : (common number : ℕ) → List ℕ → List ℕ
made_common common k words = set words (place_of common k words) common

-- The uncommon words have the first places, in their order, and the lines of the script those behind them.
abbrev pub places : (common : ℕ) → World → ℕ
places common w = uncommon common w.words + length w.script

abbrev pub edited : (common place : ℕ) → World → World
edited common k w =
    if nat_lt k (uncommon common w.words) then record w { words = made_common common k w.words }
    else record w { script = remove w.script (k - uncommon common w.words) }

abbrev pub simpler : (common : ℕ) → Edit
simpler common = record { places = places common; edited = edited common }
