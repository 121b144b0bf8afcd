-- Without frames what is shown is the trace.
use Rattle.std.proofs.Common.{◌≡◌, Bool, false, List, [], ◌∷◌, ◌++◌, refl, sym, ap, ◌∙◌}
use Rattle.flow_trace.specs.declared.line.Line.{Line}
use Rattle.flow_trace.specs.declared.line.Line.TheVariants as line
use Rattle.flow_worldfile.specs.Worlds as file
use Rattle.flow_meaning.specs.Requests.{Spot}
use Rattle.flow_meaning.specs.Process.{Engine}
use Rattle.flow_meaning.specs.World.{World, at_start}
use Rattle.flow_meaning.specs.Runs.{Runs, IsRun, after, lines_of}
use Rattle.flow_meaning.specs.Runs as run
use Rattle.flow_meaning.specs.Source.{source}
use Rattle.flow_meaning.specs.Class.{classes}
use Rattle.flow_meaning.specs.Views.{actor_spot, frame_spot}
use Rattle.flow_compile_laws.specs.Frames.Framed.{Shows, ends, spent, event, IsShown}
use Rattle.flow_compile_laws.specs.Frames.Laws.{TraceShown, ClassTraceShown}

-- the run of what is shown
pub record Run {A : Type 0} (e : Engine A) (w : World A) : Type 0 where
  pub states : List (World A)
  pub lines : List Line
  pub runs : Runs e w states lines

module _ {A : Type 0} (e : Engine A) (spot : A → Spot) where
  pub run_of : (with_frames : Bool) (w : World A) (lines : List Line) → Shows e spot with_frames w lines → Run e w
  run_of f w ls (ends last g) = record { states = []; lines = last ∷ []; runs = run.ends last g }
  run_of f w ls (spent b l g k r x) = record { states = []; lines = lines_of b l ++ line.EndSpent ∷ []; runs = run.spent b l g k r x }
  run_of f w ls (event {lines = more} b l g k r x rest) =
      let later = run_of f (after w b l) more rest in
      record { states = after w b l ∷ later.states; lines = lines_of b l ++ later.lines; runs = run.event b l g k r x later.runs }

  -- without frames its lines are those shown
  all_lines : (w : World A) (lines : List Line) → (s : Shows e spot false w lines) → (run_of false w lines s).lines ≡ lines
  unfolding run_of
  all_lines w ls (ends last g) = refl
  all_lines w ls (spent b l g k r x) = refl
  all_lines w ls (event {lines = more} b l g k r x rest) = ap (λ ms. lines_of b l ++ ms) (all_lines (after w b l) more rest)

  trace_of : (w : file.World) (lines : List Line) → IsShown e spot false w lines → (states : List (World A)) × IsRun e w states lines
  trace_of w lines s =
      let r = run_of false (at_start w) s.rest s.shows in (
        at_start w ∷ r.states,
        record { later = r.states; rest = r.lines; runs = r.runs; from_start = refl; with_head = s.with_head ∙ ap (λ ls. line.Head ∷ ls) (sym (all_lines (at_start w) s.rest s.shows)) },
      )

pub trace_shown : TraceShown
trace_shown p w lines s = trace_of (source p) actor_spot w lines s

pub class_trace_shown : ClassTraceShown
class_trace_shown r w lines s = trace_of (classes r) frame_spot w lines s
