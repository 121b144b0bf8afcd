-- The words that a run takes are all that counts.
use Rattle.std.specs.Prelude.{◌≡◌, ◌<◌, ◌≤◌, ℕ, List, length}
use Rattle.flow_trace.specs.declared.line.Line.{Line}
use Rattle.flow_worldfile.specs.Worlds as file
use Rattle.flow_draw.specs.declared.question.Question.{Question}
use Rattle.flow_draw.specs.Words.{word_at}
use Rattle.flow_simplify.specs.Pinning.{pinned}
use Rattle.flow_meaning.specs.Process.{Engine}
use Rattle.flow_draw_laws.specs.Answers.{SameButWords, Asked}

-- so many first words of two worlds are the same
abbrev pub SameFirst : (count : ℕ) → file.World → file.World → Type 0
SameFirst n v w = (k : ℕ) → k < n → word_at v.seed v.words k ≡ word_at w.seed w.words k

-- Worlds that are equal but for seed and words, whose first words are the same, as many as a run asks, have that run.
abbrev pub SameTaken : {A : Type 0} → Engine A → Type 0
SameTaken e =
    (v w : file.World) (lines : List Line) (qs : List Question) → SameButWords v w → Asked e v lines qs → SameFirst (length qs) v w
    → Asked e w lines qs

-- Where as many words are listed as a run asks, it is the run of every seed.
abbrev pub ListedRun : {A : Type 0} → Engine A → Type 0
ListedRun e =
    (w : file.World) (lines : List Line) (qs : List Question) → Asked e w lines qs → length qs ≤ length w.words → (seed : ℕ)
    → Asked e (record w { seed = seed }) lines qs

-- So it is in the world that lists the words which a run takes, and no others.
abbrev pub PinnedRun : {A : Type 0} → Engine A → Type 0
PinnedRun e =
    (w : file.World) (lines : List Line) (qs : List Question) → Asked e w lines qs → (seed : ℕ)
    → Asked e (record (pinned (length qs) w) { seed = seed }) lines qs
