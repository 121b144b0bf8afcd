-- The streams of ports have no end: only their ports refer to the promise side of them.
use Rattle.std.specs.Prelude.{◌≡◌, ℕ, ◌<◌}
use Rattle.std.specs.List.{AllByRecursion}
use Rattle.std.specs.declared.option.Option.{Option}
use Rattle.std.specs.declared.option.Option.TheVariants.{None, Some}
use Rattle.flow_worldfile.specs.Worlds as file
use Rattle.flow_class.specs.Classes.{RawTree}
use Rattle.flow_numbered.specs.Numbered.{thing}
use Rattle.flow_meaning.specs.Cells.{PromiseSide, Cell, Stream}
use Rattle.flow_meaning.specs.Requests.{Supply}
use Rattle.flow_meaning.specs.Process.{Core, Proc}
use Rattle.flow_meaning.specs.Orderly.{Orderly, UnlessStopped}
use Rattle.flow_meaning.specs.Burst.{Live, Burst}
use Rattle.flow_meaning.specs.Step.{Stepped, step}
use Rattle.flow_meaning.specs.Class.{classes}
use Rattle.flow_meaning.specs.References.{in_ports}
use Rattle.flow_meaning.specs.Outside.{Outside, host}
use Rattle.flow_meaning.specs.Runs.{before, after}
use Rattle.flow_meaning.specs.World.{Place, World, Begun, next_of, begun_by, at_start}
use Rattle.flow_meaning.specs.Frame.{Frame}
use Rattle.flow_heap_refinement.specs.CellsTied.{CellsTied}
use Rattle.flow_heap_refinement.specs.Lonely.{OwnedAlone}
use Rattle.flow_invariants.specs.Fitting.Among.{WorldFits}

-- a cell that is a stream without an end
abbrev pub IsOpen : Option Cell → Type 0
IsOpen (Some (Stream queue None w)) = Unit {0}
IsOpen _ = ⊥

-- each cell that is the stream of a port is one
abbrev pub Open : Core → Type 0
Open c = (k : ℕ) → 0 < in_ports PromiseSide k c.ports → IsOpen (thing c.cells k)

-- Each step keeps it, of any classes, where nobody else refers to the promise side of what the process
-- made a cell for.
abbrev pub StepsOpen : Type 0
StepsOpen =
    (r : RawTree) (s : Supply) (p : Proc Frame) (q : Stepped Frame) → Orderly p.core → CellsTied p.core
    → OwnedAlone p → Open p.core → step (classes r) s p ≡ Some q
    → UnlessStopped q.0.core.halted (Open q.0.core)

-- so it is of each process of a world before its first event, and after each event of valid classes
abbrev pub WorldOpen : World Frame → Type 0
WorldOpen w = AllByRecursion (λ (a : Place Frame). Open a.proc.core) w.places

abbrev pub StartOpen : Type 0
StartOpen = (w : file.World) → WorldOpen (at_start w)

abbrev pub EventOpen : RawTree → Type 0
EventOpen r =
    (w : World Frame) (b : Begun Frame) (l : Live Outside Frame) → WorldFits r w → WorldOpen w
    → begun_by (classes r) w (next_of w.out) ≡ Some b → Burst (classes r) host (before b) l
    → l.proc.core.halted ≡ None → WorldOpen (after w b l)
