-- What a process of valid classes keeps within an event of a run, and what holds of it at a boundary.
use Rattle.std.specs.Prelude.{◌≡◌, List, [], ◌∷◌, slice_get}
use Rattle.std.specs.List.{AllByRecursion}
use Rattle.std.specs.declared.option.Option.TheVariants.{Some}
use Rattle.flow_worldfile.specs.Worlds as file
use Rattle.flow_class.specs.Classes.{CallbackTree, ClassTree, RawTree}
use Rattle.flow_meaning.specs.Process.{Proc}
use Rattle.flow_meaning.specs.Orderly.{UnlessStopped}
use Rattle.flow_meaning.specs.Burst.{Live}
use Rattle.flow_meaning.specs.Outside.{Outside}
use Rattle.flow_meaning.specs.Views.{Referred}
use Rattle.flow_meaning.specs.World.{Place, World, at_start}
use Rattle.flow_meaning.specs.Runs.{ClassStates}
use Rattle.flow_meaning.specs.Frame.{Frame}
use Rattle.flow_meaning.specs.Class.{classes}
use Rattle.flow_heap_refinement.specs.Rested.{Owned, Cared, Referenced}
use Rattle.flow_invariants.specs.Fitting.Laws.{AreValid}
use Rattle.flow_invariants.specs.Invariant.{Comes}

-- a group that is written has a callback
abbrev pub HasCallback : List CallbackTree → Type 0
HasCallback [] = ⊥
HasCallback (k ∷ ks) = Unit {0}

abbrev pub GroupsWritten : RawTree → Type 0
GroupsWritten r = (k : _) (c : ClassTree) → slice_get r.classes k ≡ Some c → AllByRecursion HasCallback c.groups

-- valid classes as the grammar of class text has them, with a callback in each group
pub record AreWhole (r : RawTree) : Type 0 where
  pub valid : AreValid r
  pub groups : GroupsWritten r

-- What a process keeps: what it made a cell for is its own; an actor that is marked as cancelled runs, and a
-- future refers to the result of any other unfinished actor; and each cell is referred to.
pub record EventInvariant (p : Proc Frame) : Type 0 where
  pub owned : Owned p
  pub cared : Cared p
  pub referenced : Referenced p

-- At rest moreover no unfinished actor is marked, so that a future refers to the result of each that isn't void.
pub record BoundaryInvariant (r : RawTree) (p : Proc Frame) : Type 0 where
  pub keeps : EventInvariant p
  pub referred : Referred (classes r) p

abbrev pub WorldRests : RawTree → World Frame → Type 0
WorldRests r w = AllByRecursion (λ (a : Place Frame). BoundaryInvariant r a.proc) w.places

-- So it is at each boundary of a run in the world of a file in range.
abbrev pub StatesRest : RawTree → Type 0
StatesRest r =
    (w : file.World) (states : List (World Frame)) → file.IsInRange w → ClassStates r w states
    → AllByRecursion (WorldRests r) states

-- Between two steps of an event, unless it is stopped, the process keeps what it has to.
abbrev pub StepsKeep : RawTree → Type 0
StepsKeep r =
    (w : file.World) (l : Live Outside Frame) → file.IsInRange w → Comes r (at_start w) l
    → UnlessStopped l.proc.core.halted (EventInvariant l.proc)
