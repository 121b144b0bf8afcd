-- Runs are functions of what drawn words answer.
use Rattle.std.specs.Prelude.{◌≡◌, ℕ, suc, List, take}
use Rattle.flow_trace.specs.declared.line.Line.{Line}
use Rattle.flow_worldfile.specs.Worlds as file
use Rattle.flow_draw.specs.declared.question.Question.{Question}
use Rattle.flow_meaning.specs.Process.{Engine}
use Rattle.flow_meaning.specs.World.{World}
use Rattle.flow_meaning.specs.Runs.{IsRun}
use Rattle.flow_draw_laws.specs.Answers.{SameButWords, answers, Asked}

-- each run asks something, if only nothing; and what asks is a run
abbrev pub RunsAsk : {A : Type 0} → Engine A → Type 0
RunsAsk {A} e =
    (w : file.World) (states : List (World A)) (lines : List Line) → IsRun e w states lines → (qs : List Question) × Asked e w lines qs

abbrev pub AskedRuns : {A : Type 0} → Engine A → Type 0
AskedRuns {A} e =
    (w : file.World) (lines : List Line) (qs : List Question) → Asked e w lines qs → (states : List (World A)) × IsRun e w states lines

-- Worlds that are equal but for seed and words, whose words answer alike to all that a run asks, have that run.
abbrev pub SameRun : {A : Type 0} → Engine A → Type 0
SameRun e =
    (v w : file.World) (lines : List Line) (qs : List Question) → SameButWords v w → Asked e v lines qs
    → answers qs v ≡ answers qs w → Asked e w lines qs

-- As long as their words answer alike, the same is asked next.
abbrev pub SameNext : {A : Type 0} → Engine A → Type 0
SameNext e =
    (v w : file.World) (lines others : List Line) (qs rs : List Question) → SameButWords v w → Asked e v lines qs
    → Asked e w others rs → (k : ℕ) → answers (take k qs) v ≡ answers (take k qs) w → take (suc k) qs ≡ take (suc k) rs
