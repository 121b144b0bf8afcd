-- An actor leaves its wait in memory as it does in the process.
use Rattle.std.specs.Prelude.{◌≡◌, true, ℕ, zero, suc, List, [], ◌∷◌}
use Rattle.std.specs.declared.option.Option.{Option}
use Rattle.std.specs.declared.option.Option.TheVariants.{Some}
use Rattle.flow_value.specs.declared.value.Kind.{Kind}
use Rattle.flow_value.specs.declared.value.Kind.TheVariants as kind
use Rattle.flow_class.specs.Classes.{RawTree}
use Rattle.flow_cancel.specs.Heap.{HeapTree}
use Rattle.flow_cancel.specs.Leaving.{withdrawn, cancelled}
use Rattle.flow_numbered.specs.Numbered.{Numbered, thing}
use Rattle.flow_meaning.specs.Cells.{Ref, Cell, Single}
use Rattle.flow_meaning.specs.Process.{Entry, Core, Proc}
use Rattle.flow_meaning.specs.Work.{drops, leave, cancel_by}
use Rattle.flow_meaning.specs.Step.{on_core}
use Rattle.flow_meaning.specs.Frame.{Frame}
use Rattle.flow_heap_refinement.specs.Representing.{Represents}
use Rattle.flow_heap_refinement.specs.Counted.{branches_of, branches_at, waiters_at}
use Rattle.flow_heap_refinement.specs.Acting.{NoKeep, At}

-- the kind of a reference to wait at a cell
abbrev pub wait_kind : Option Cell → Kind
wait_kind (Some (Single content ws)) = kind.Future
wait_kind _ = kind.FutureStream

abbrev pub RightKinds : Numbered Cell → List Ref → Type 0
RightKinds cs [] = Unit {0}
RightKinds cs (r ∷ rs) = (r.0 ≡ wait_kind (thing cs r.1)) × RightKinds cs rs

-- the first so many
abbrev pub first_part : ℕ → List Ref → List Ref
first_part zero rs = []
first_part (suc n) [] = []
first_part (suc n) (r ∷ rs) = r ∷ first_part n rs

-- An actor may leave its wait: no operand is to be kept, each has the right kind, and the first so many of them, all of a
-- suspended actor's and none of another's, wait at their cells.
pub record MayLeave (i : ℕ) (rs : List Ref) (c : Core) : Type 0 where
  pub keeps : NoKeep i c.tasks
  pub kinds : RightKinds c.cells rs
  pub many : ℕ
  pub waits : (k : ℕ) → branches_of i (waiters_at (thing c.cells k)) ≡ branches_at k 0 (first_part many rs)

-- the process whose actor has left its wait: its operands are dropped in order
abbrev pub left_wait : (actor : ℕ) → Entry → Core → Core
left_wait i e c = record (leave i e c) { tasks = drops e.operands c.tasks }

module _ (r : RawTree) (h : HeapTree) (p : Proc Frame) where
  abbrev pub Withdrawn : Type 0
  Withdrawn =
      (i : ℕ) → Represents r h p → (s : At r h p i) → MayLeave i s.entry.operands p.core
      → Represents r (withdrawn i h) (on_core (left_wait i s.entry) p)

  -- an actor is marked as cancelled, and leaves its wait if it is suspended
  abbrev pub Cancelled : Type 0
  Cancelled =
      (i : ℕ) → Represents r h p → (s : At r h p i)
      → (s.entry.suspended ≡ true → MayLeave i s.entry.operands p.core)
      → Represents r (cancelled i h) (on_core (cancel_by s.entry.suspended i s.entry) p)
