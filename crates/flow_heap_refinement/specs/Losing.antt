-- What the loss of a reference does to a heap, by its kept counts, is what it does to the process that the heap shows, by
-- a scan for references.
use Rattle.std.specs.Prelude.{◌≡◌, ℕ, true}
use Rattle.std.specs.declared.option.Option.TheVariants.{Some}
use Rattle.flow_value.specs.declared.value.Kind.{Kind}
use Rattle.flow_value.specs.declared.value.Kind.TheVariants as kind
use Rattle.flow_class.specs.Classes.{RawTree}
use Rattle.flow_cancel.specs.Heap.{HeapTree, actor_id}
use Rattle.flow_cancel.specs.Dropping.{Lost, dropped, may_drop}
use Rattle.flow_cancel.specs.declared.task.Dropped.TheVariants as memory
use Rattle.flow_numbered.specs.Numbered.{thing, removed}
use Rattle.flow_meaning.specs.Cells.{PromiseSide, FutureSide, side_of, Cell, Single, Stream}
use Rattle.flow_meaning.specs.Process.{Core, Proc}
use Rattle.flow_meaning.specs.References.{one}
use Rattle.flow_meaning.specs.Work.{free, owner}
use Rattle.flow_meaning.specs.Dropping.{Loss, Kept, Freed, Broken, Orphan, Unheard, loss, port_of}
use Rattle.flow_meaning.specs.Orderly.{Rising}
use Rattle.flow_meaning.specs.Step.{on_core}
use Rattle.flow_meaning.specs.Frame.{Frame}
use Rattle.flow_heap_refinement.specs.Representing.{Represents}
use Rattle.flow_heap_refinement.specs.Counted.{references, nothing_in_hand, Counted}
use Rattle.flow_heap_refinement.specs.Rested.{Owned, InNumbers, Sorted}

-- a reference of a kind leads to a cell of that kind
abbrev pub RightCell : Kind → Cell → Type 0
RightCell kind.Promise (Single content ws) = Unit {0}
RightCell kind.Future (Single content ws) = Unit {0}
RightCell kind.PromiseStream (Stream queue end w) = Unit {0}
RightCell kind.FutureStream (Stream queue end w) = Unit {0}
RightCell _ _ = ⊥

-- A reference to a cell was taken out of the process, and still counts in memory.
pub record Losing (r : RawTree) (h : HeapTree) (p : Proc Frame) (kd : Kind) (k : ℕ) (c : Cell) : Type 0 where
  pub shows : Represents r h p
  pub counted : Counted (λ s j. one s j (side_of kd) k) h p
  pub cell : thing p.core.cells k ≡ Some c
  pub right : RightCell kd c
  pub owned : Owned p
  pub numbers : InNumbers p.core
  pub entries : Rising 0 p.core.started p.core.entries
  pub sorted : Sorted h

-- a heap shows a process, and its counts are the process's references
abbrev pub Same : RawTree → HeapTree → Proc Frame → Type 0
Same r h p = Represents r h p × Counted nothing_in_hand h p

-- the stream of a port goes, and the port
abbrev pub free_port : (cell port : ℕ) → Core → Core
free_port k q c = free k (record c { ports = removed c.ports q })

-- What memory says of the loss, and the case of the rule: the heap shows the process, or the one whose cell is gone.
abbrev pub LossMatches : RawTree → Proc Frame → ℕ → Lost → Loss → Type 0
LossMatches r p k (h, memory.Nothing) Kept = Same r h p
LossMatches r p k (h, memory.Freed) Freed = Same r h (on_core (free k) p)
LossMatches r p k (h, memory.Broken) Broken = Same r h p
LossMatches r p k (h, memory.Cancel a) (Orphan i e) =
    (a ≡ actor_id i) × (thing p.core.entries i ≡ Some e) × Same r h p
LossMatches r p k (h, memory.PortFreed) (Unheard q) = Same r h (on_core (free_port k q) p)
LossMatches r p k _ _ = ⊥

module _ (r : RawTree) (h : HeapTree) (p : Proc Frame) where
  abbrev pub MayDrop : Type 0
  MayDrop = (kd : Kind) (k : ℕ) (c : Cell) → Losing r h p kd k c → may_drop kd k h ≡ true

  abbrev pub LossFollows : Type 0
  LossFollows =
      (kd : Kind) (k : ℕ) (c : Cell) → Losing r h p kd k c
      → LossMatches r p k (dropped kd k h) (loss (side_of kd) (references PromiseSide k p) (references FutureSide k p) c
      (owner k p.core.entries) (port_of k p.core.ports))
