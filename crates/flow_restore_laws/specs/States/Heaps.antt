-- The parts of a heap at rest that shows a process: how often they name a cell, and that they are sound.
use Rattle.std.specs.Prelude.{◌≡◌, ◌<◌, ℕ, ◌+◌, ◌^◌, length, slice_get}
use Rattle.std.specs.declared.option.Option.TheVariants.{Some}
use Rattle.flow_value.specs.declared.value.Kind.{Kind}
use Rattle.flow_class.specs.Classes.{ClassTree, RawTree}
use Rattle.flow_cancel.specs.Heap.{HeapTree}
use Rattle.flow_numbered.specs.Numbered.{thing}
use Rattle.flow_heapstate.specs.State.{parts_of}
use Rattle.flow_heapstate.specs.Referring as parts
use Rattle.flow_heapstate.specs.Referring.{times}
use Rattle.flow_heapstate.specs.Sound.{SoundHeap}
use Rattle.flow_meaning.specs.Cells.{side_of, Cell}
use Rattle.flow_meaning.specs.Process.{Proc}
use Rattle.flow_meaning.specs.Frame.{Frame}
use Rattle.flow_heap_refinement.specs.Counted.{references}
use Rattle.flow_heap_refinement.specs.Losing.{RightCell}
use Rattle.flow_heap_refinement.specs.Rested.{Rested}
use Rattle.flow_progress.specs.Fitting.{CellTypes, ProcessFits}
use Rattle.flow_invariants.specs.OpenPorts.{Open}
use Rattle.flow_invariants.specs.Fires.{NobodyDue}

-- each class has fewer than 2^32 places
abbrev pub HaveFewerPlaces : RawTree → Type 0
HaveFewerPlaces r =
    (k : ℕ) (c : ClassTree) → slice_get r.classes k ≡ Some c → length c.slots + length c.locals < 2 ^ 32

-- a heap at rest that shows a process of these classes, which fits
pub record Fitting (r : RawTree) (h : HeapTree) (p : Proc Frame) : Type 0 where
  pub rested : Rested r h p
  pub types : CellTypes
  pub fits : ProcessFits r types p.core p.actors

-- The references of a kind to a cell of that kind, among those of the parts, are what the process refers
-- to that side of the cell.
abbrev pub TimesCounted : Type 0
TimesCounted =
    (r : RawTree) (h : HeapTree) (p : Proc Frame) (k : ℕ) (c : Cell) (q : Kind) → Fitting r h p
    → thing p.core.cells k ≡ Some c → RightCell q c
    → times q k (parts.references (parts_of h)) ≡ references (side_of q) k p

-- Besides, nobody waits at a cell that is ready, the streams of ports have no end, and classes have few
-- places: then the parts are sound.
abbrev pub HeapsSound : Type 0
HeapsSound =
    (r : RawTree) (h : HeapTree) (p : Proc Frame) → HaveFewerPlaces r → Fitting r h p → NobodyDue p.core
    → Open p.core → SoundHeap (parts_of h)
