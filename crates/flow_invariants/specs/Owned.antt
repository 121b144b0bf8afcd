-- Cells that a process is to set itself are unset: the results of unfinished actors, and those of open requests.
use Rattle.std.specs.Prelude.{ℕ, ◌+◌, ◌<◌, List}
use Rattle.std.specs.List.{AllByRecursion}
use Rattle.flow_worldfile.specs.Worlds as file
use Rattle.flow_timers.specs.Pending.{Pending}
use Rattle.std.specs.Prelude.{◌≡◌}
use Rattle.std.specs.declared.option.Option.TheVariants.{Some}
use Rattle.flow_class.specs.Classes.{RawTree}
use Rattle.flow_numbered.specs.Numbered.{thing}
use Rattle.flow_meaning.specs.Cells.{PromiseSide}
use Rattle.flow_meaning.specs.Requests.{Supply}
use Rattle.flow_meaning.specs.Process.{Core, Proc}
use Rattle.flow_meaning.specs.Orderly.{Orderly, UnlessStopped}
use Rattle.flow_meaning.specs.Step.{Stepped, step}
use Rattle.flow_meaning.specs.Class.{classes}
use Rattle.flow_meaning.specs.Outside.{What}
use Rattle.flow_meaning.specs.References.{in_requests}
use Rattle.flow_meaning.specs.World.{Place, World}
use Rattle.flow_meaning.specs.Runs.{ClassStates}
use Rattle.flow_meaning.specs.Frame.{Frame}
use Rattle.flow_heap_refinement.specs.Rested.{IsUnset, Owned}
use Rattle.flow_heap_refinement.specs.Alone.{results_at}
use Rattle.flow_heap_refinement.specs.CellsTied.{CellsTied}
use Rattle.flow_heap_refinement.specs.Lonely.{OwnedAlone}
use Rattle.flow_invariants.specs.Fitting.Among.{FitsAmong}

-- how often a cell is the result of an unfinished actor, or that of an open request
abbrev pub awaited : ℕ → Core → ℕ
awaited k c = results_at k c.entries + in_requests PromiseSide k c.requests

-- then it is an unset single result
abbrev pub Unset : Core → Type 0
Unset c = (k : ℕ) → 0 < awaited k c → IsUnset (thing c.cells k)

-- Each step keeps it, of any classes, where nobody else refers to the promise side of what the process
-- made a cell for.
abbrev pub StepsUnset : Type 0
StepsUnset =
    (r : RawTree) (s : Supply) (p : Proc Frame) (q : Stepped Frame) → Orderly p.core → CellsTied p.core
    → OwnedAlone p → Unset p.core → step (classes r) s p ≡ Some q
    → UnlessStopped q.0.core.halted (Unset q.0.core)

-- Then a process of valid classes owns what it made a cell for.
abbrev pub ProcessesOwn : Type 0
ProcessesOwn =
    (r : RawTree) (n : ℕ) (events : List (Pending What)) (p : Proc Frame) → FitsAmong r n events p
    → Unset p.core → Owned p

-- each process of a world owns what it made a cell for
abbrev pub WorldOwns : World Frame → Type 0
WorldOwns w = AllByRecursion (λ (a : Place Frame). Owned a.proc) w.places

-- At each boundary of a run in the world of a file in range it is so.
abbrev pub StatesOwn : RawTree → Type 0
StatesOwn r =
    (w : file.World) (states : List (World Frame)) → file.IsInRange w → ClassStates r w states
    → AllByRecursion WorldOwns states
