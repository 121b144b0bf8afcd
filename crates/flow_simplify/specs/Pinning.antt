-- A world that lists the first words of its own.
use Rattle.std.specs.Prelude.{ℕ, zero, suc, List, [], ◌∷◌, ◌++◌}
use Rattle.flow_draw.specs.Words.{word_at}
use Rattle.flow_worldfile.specs.Worlds.{World}

abbrev pub first_words : World → (count : ℕ) → List ℕ
first_words w zero = []
first_words w (suc n) = first_words w n ++ word_at w.seed w.words n ∷ []

-- it lists its first so many words, and no others
abbrev pub pinned : (count : ℕ) → World → World
pinned count w = record w { words = first_words w count }
