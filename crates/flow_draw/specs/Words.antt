-- The drawn words, each by its number: first those that are listed, then the outputs of a generator.
use Rattle.std.specs.Prelude.{ℕ, ℤ, pos, ◌+◌, ◌+ℤ◌, ◌-◌, ◌%◌, List, [], ◌∷◌, ◌++◌, length, take, fold, slice_index, nat_lt, if◌then◌else◌}
use Rattle.rand_pcg.specs.Lcg.{Lcg, started, increment_of, advance}
use Rattle.rand_pcg.specs.Pcg.{multiplier_64, pcg32}
use Rattle.flow_draw.specs.declared.question.Question.{Question}

-- the generator that `Lcg64Xsh32::new(seed, 54)` makes
abbrev pub generator_of : ℕ → Lcg
generator_of seed = started 64 multiplier_64 seed (increment_of 64 54)

-- its output k, from 0: what it gives after k steps
abbrev pub output_at : ℕ → ℕ → ℕ
output_at seed k = (pcg32 (advance 64 multiplier_64 k (generator_of seed))).0

-- word k, from 0: the listed word k, or, past the list, an output, counted from the end of the list
abbrev pub word_at : ℕ → List ℕ → ℕ → ℕ
word_at seed listed k = if nat_lt k (length listed) then slice_index listed k else output_at seed (k - length listed)

-- What a contract sees of the draws: what fixes the words; how many of them were taken; and what the first of them were
-- asked for, of which so many are noted.
pub record Drawn : Type 0 where
  pub seed : ℕ
  pub listed : List ℕ
  pub used : ℕ
  pub room : ℕ
  pub noted : List Question

-- the words of a seed and a list after so many were taken, without room for notes
abbrev pub drawn_from : (seed : ℕ) → (listed : List ℕ) → (used : ℕ) → Drawn
drawn_from seed listed used = record { seed = seed; listed = listed; used = used; room = 0; noted = [] }

-- the word that is taken so many words from now
abbrev pub word_in : Drawn → ℕ → ℕ
word_in d k = word_at d.seed d.listed (d.used + k)

-- the word that is taken next
abbrev pub next_word : Drawn → ℕ
next_word d = word_at d.seed d.listed d.used

-- the notes with one more where there is room for it
abbrev pub noted_in : (room : ℕ) → List Question → Question → List Question
noted_in room noted q = take room (noted ++ q ∷ [])

-- the draws when words were taken for these questions
abbrev pub asked : Drawn → List Question → Drawn
asked d qs = record d { used = d.used + length qs; noted = fold (noted_in d.room) d.noted qs }

-- the number that a word gives among the `width` numbers from `lo` on
abbrev pub scaled : ℤ → ℕ → ℕ → ℤ
scaled lo width word = lo +ℤ pos (word % width)
