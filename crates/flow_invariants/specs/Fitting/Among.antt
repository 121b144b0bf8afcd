-- A process of valid classes among the pending events of its world, and a world of such processes.
use Rattle.std.specs.Prelude.{◌≡◌, ℕ, suc, ◌<◌, ◌≤◌, List, [], ◌∷◌, length}
use Rattle.std.specs.List.{AllByRecursion}
use Rattle.flow_timers.specs.Pending.{Pending}
use Rattle.flow_worldfile.specs.Directives.{OrderNames}
use Rattle.flow_worldfile.specs.declared.directive.Order.{Order}
use Rattle.flow_class.specs.Classes.{RawTree}
use Rattle.flow_meaning.specs.Cells.{PromiseSide}
use Rattle.flow_meaning.specs.Process.{Proc}
use Rattle.flow_meaning.specs.References.{in_requests}
use Rattle.flow_meaning.specs.Law.{AtRest}
use Rattle.flow_meaning.specs.Outside.{What}
use Rattle.flow_meaning.specs.World.{Place, World, process_in}
use Rattle.flow_meaning.specs.Frame.{Frame}
use Rattle.flow_heap_refinement.specs.CellsTied.{CellsTied}
use Rattle.flow_heap_refinement.specs.Lonely.{OwnedAlone}
use Rattle.flow_progress.specs.Ending.{InPlace}
use Rattle.flow_progress.specs.Fitting.{CellTypes, ProcessFits}
use Rattle.flow_invariants.specs.Fitting.Due.{due, AllBring}

-- A process is in order and fits; waiters and operands agree; nobody else refers to the promise side of
-- what it made a cell for; and what pending events set are cells of open requests, of the types of what
-- these bring.
pub record FitsAmong (r : RawTree) (process : ℕ) (events : List (Pending What)) (p : Proc Frame)
    : Type 0 where
  pub in_place : InPlace r p.core p.actors
  pub tied : CellsTied p.core
  pub alone : OwnedAlone p
  pub types : CellTypes
  pub fits : ProcessFits r types p.core p.actors
  pub brought : AllBring process types events
  pub awaited : (k : ℕ) → due process k events ≤ in_requests PromiseSide k p.core.requests

-- So it is with each process of a world, numbered from here on, and nothing is left to do in it.
abbrev pub RestsAmong : RawTree → (process : ℕ) → List (Pending What) → Place Frame → Type 0
RestsAmong r n events a = AtRest a.proc.core × FitsAmong r n events a.proc

abbrev pub AllRest : RawTree → (from : ℕ) → List (Pending What) → List (Place Frame) → Type 0
AllRest r n events [] = Unit {0}
AllRest r n events (a ∷ rest) = RestsAmong r n events a × AllRest r (suc n) events rest

-- an event of one of so many processes
abbrev pub EventNames : ℕ → Pending What → Type 0
EventNames count e = process_in e.what < count

abbrev pub LineNames : ℕ → ℕ × Order → Type 0
LineNames count x = OrderNames count x.1

-- A world at a boundary of events: its processes are so, and its events and script name them alone.
pub record WorldFits (r : RawTree) (w : World Frame) : Type 0 where
  pub places : AllRest r 0 w.out.events.pending w.places
  pub count : length w.places ≡ w.out.file.processes
  pub events : AllByRecursion (EventNames w.out.file.processes) w.out.events.pending
  pub script : AllByRecursion (LineNames w.out.file.processes) w.out.script
