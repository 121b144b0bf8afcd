-- An actor whose last future goes within an event that isn't spent is at its end when the event is over.
use Rattle.std.specs.Prelude.{◌≡◌, ℕ, List}
use Rattle.std.specs.List.{AllByRecursion}
use Rattle.std.specs.declared.option.Option.TheVariants.{None, Some}
use Rattle.flow_worldfile.specs.Worlds as file
use Rattle.flow_class.specs.Classes.{RawTree}
use Rattle.flow_numbered.specs.Numbered.{thing}
use Rattle.flow_meaning.specs.Cells.{FutureSide}
use Rattle.flow_meaning.specs.Process.{Entry, Engine, Proc}
use Rattle.flow_meaning.specs.References.{reference_count}
use Rattle.flow_meaning.specs.Burst.{Live, Burst}
use Rattle.flow_meaning.specs.Step.{scanned}
use Rattle.flow_meaning.specs.Outside.{Outside, host}
use Rattle.flow_meaning.specs.World.{World, Begun, next_of, begun_by}
use Rattle.flow_meaning.specs.Runs.{before, ClassStates}
use Rattle.flow_meaning.specs.Frame.{Frame}
use Rattle.flow_meaning.specs.Class.{classes}
use Rattle.flow_progress.specs.Ending.{Reaches}

-- an unfinished actor to whose result no future refers
pub record Unreferred {A : Type 0} (e : Engine A) (p : Proc A) (actor : ℕ) : Type 0 where
  pub entry : Entry
  pub cell : ℕ
  pub unfinished : thing p.core.entries actor ≡ Some entry
  pub result : entry.result ≡ Some cell
  pub no_future : reference_count (scanned e p) FutureSide cell p.core ≡ 0

-- In the next event of a world, unless it is spent, each actor that is so between two steps has ended at the end.
abbrev pub UnreferredEnd : {A : Type 0} → Engine A → World A → Type 0
UnreferredEnd {A} e w =
    (b : Begun A) (m l : Live Outside A) (actor : ℕ) → begun_by e w (next_of w.out) ≡ Some b → Reaches e host (before b) m
    → Unreferred e m.proc actor → Burst e host m l → l.proc.core.halted ≡ None → thing l.proc.core.entries actor ≡ None

-- So it is of each event of a run in the world of a file in range.
abbrev pub StatesEnd : RawTree → Type 0
StatesEnd r =
    (w : file.World) (states : List (World Frame)) → file.IsInRange w → ClassStates r w states
    → AllByRecursion (UnreferredEnd (classes r)) states
