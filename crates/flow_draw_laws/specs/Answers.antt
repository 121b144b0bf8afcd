-- What the words of a world answer, and what a run asks of them.
use Rattle.std.specs.Prelude.{◌≡◌, ℕ, zero, suc, List, [], ◌∷◌, ◌++◌}
use Rattle.std.specs.declared.option.Option.TheVariants.{None, Some}
use Rattle.flow_trace.specs.declared.line.Line.{Line}
use Rattle.flow_trace.specs.declared.line.Line.TheVariants as line
use Rattle.flow_worldfile.specs.Worlds as file
use Rattle.flow_draw.specs.declared.question.Question.{Question}
use Rattle.flow_draw.specs.Questions.{answer}
use Rattle.flow_draw.specs.Words.{word_at}
use Rattle.flow_meaning.specs.Process.{Engine, Spent}
use Rattle.flow_meaning.specs.Burst.{Live, Burst}
use Rattle.flow_meaning.specs.Outside.{Outside, host}
use Rattle.flow_meaning.specs.World.{World, Begun, next_of, begun_by, ending, at_start}
use Rattle.flow_meaning.specs.Runs.{before, after, lines_of}

-- worlds that are equal but for their seed and words
abbrev pub SameButWords : file.World → file.World → Type 0
SameButWords v w = record v { seed = w.seed; words = w.words } ≡ w

-- what the words of a world answer to these questions, in order, from the word of this number on
abbrev pub answers_from : (number : ℕ) → List Question → file.World → List ℕ
answers_from k [] w = []
answers_from k (q ∷ qs) w = answer q (word_at w.seed w.words k) ∷ answers_from (suc k) qs w

abbrev pub answers : List Question → file.World → List ℕ
answers qs w = answers_from zero qs w

-- A run from a world on: its lines, and what all words were asked for by its end, those of a spent event with them.
pub data Asks {A : Type 0} (e : Engine A) : World A → List Line → List Question → Type 0 where
  ends : {w : World A} (last : Line) → ending w.out (next_of w.out) ≡ Some last → Asks e w (last ∷ []) w.out.asked
  spent : {w : World A} (b : Begun A) (l : Live Outside A) → ending w.out (next_of w.out) ≡ None
      → begun_by e w (next_of w.out) ≡ Some b → Burst e host (before b) l → l.proc.core.halted ≡ Some Spent
      → Asks e w (lines_of b l ++ line.EndSpent ∷ []) l.out.asked
  event : {w : World A} {lines : List Line} {qs : List Question} (b : Begun A) (l : Live Outside A)
      → ending w.out (next_of w.out) ≡ None → begun_by e w (next_of w.out) ≡ Some b → Burst e host (before b) l
      → l.proc.core.halted ≡ None → Asks e (after w b l) lines qs → Asks e w (lines_of b l ++ lines) qs

-- the run in the world of a file, from its start
pub record Asked {A : Type 0} (e : Engine A) (w : file.World) (lines : List Line) (qs : List Question) : Type 0 where
  pub rest : List Line
  pub asks : Asks e (at_start w) rest qs
  pub with_head : lines ≡ line.Head ∷ rest
