-- What the calls of a heap add up to: references that are stored count, cells get content, results are given.
use Rattle.std.specs.Prelude.{◌≡◌, ℕ, suc, ◌+◌, true, false, List, [], ◌∷◌}
use Rattle.std.specs.declared.option.Option.{Option}
use Rattle.std.specs.declared.option.Option.TheVariants.{None, Some}
use Rattle.flow_base.specs.ErrorNumbers.{broken_promise}
use Rattle.flow_value.specs.declared.value.Kind.{Kind}
use Rattle.flow_value.specs.declared.value.Kind.TheVariants as kind
use Rattle.flow_value.specs.declared.value.Value.{Value}
use Rattle.flow_value.specs.declared.value.Outcome.{Outcome}
use Rattle.flow_value.specs.declared.value.Outcome.TheVariants as outcome
use Rattle.flow_value.specs.View.{outcome_of}
use Rattle.flow_value.specs.Values.{AllListed}
use Rattle.flow_class.specs.Classes.{RawTree}
use Rattle.flow_numbered.specs.Numbered as stored
use Rattle.flow_cell.specs.declared.counts.Side as memory
use Rattle.flow_cell.specs.declared.counts.Side.TheVariants.{Promise, Future}
use Rattle.flow_cell.specs.Cells.{CellTree, held}
use Rattle.flow_stream.specs.Streams.{StreamTree, with_item}
use Rattle.flow_cancel.specs.declared.task.Task as stack
use Rattle.flow_cancel.specs.declared.task.Task.TheVariants as task
use Rattle.flow_cancel.specs.declared.task.Dropped.TheVariants as after
use Rattle.flow_cancel.specs.Heap.{HeapTree, actor_id, pushed}
use Rattle.flow_cancel.specs.Dropping.{Lost, dropped}
use Rattle.flow_cancel.specs.Leaving.{withdrawn, cancelled}
use Rattle.flow_numbered.specs.Numbered.{thing}
use Rattle.flow_meaning.specs.Cells.{Ref, side_of, Cell, is_complete}
use Rattle.flow_meaning.specs.Process.{Task, Run, Entry, Core, Proc}
use Rattle.flow_meaning.specs.References.{Scan, count, refs_in, value_in, in_task}
use Rattle.flow_meaning.specs.Work.{fill, cancel}
use Rattle.flow_meaning.specs.Orderly.{Rising}
use Rattle.flow_meaning.specs.Work as work
use Rattle.flow_meaning.specs.Dropping.{lose_ref}
use Rattle.flow_meaning.specs.Step.{on_core}
use Rattle.flow_meaning.specs.Frame.{Frame}
use Rattle.flow_heap_refinement.specs.Representing.{Represents}
use Rattle.flow_heap_refinement.specs.Counted.{Counted, Agree, frames_hold}
use Rattle.flow_heap_refinement.specs.Acting.{NoKeep, At}
use Rattle.flow_heap_refinement.specs.Leaving.{RightKinds, left_wait}
use Rattle.flow_heap_refinement.specs.Changes.{SameTask, cell_put, stream_put, fire}
use Rattle.flow_heap_refinement.specs.Losing.{RightCell, Losing, Same}

-- A heap shows a process, and its counts are the references in it and in hand.
pub record Holds (r : RawTree) (in_hand : Scan) (h : HeapTree) (p : Proc Frame) : Type 0 where
  pub shows : Represents r h p
  pub counted : Counted in_hand h p

-- references come to hand
abbrev pub with_refs : List Ref → Scan → Scan
with_refs rs x s j = count s j rs + x s j

-- a reference leads to a cell of its kind
pub record There (p : Proc Frame) (r : Ref) : Type 0 where
  pub cell : Cell
  pub at : thing p.core.cells r.1 ≡ Some cell
  pub right : RightCell r.0 cell

abbrev pub AllThere : Proc Frame → List Ref → Type 0
AllThere p = AllListed (There p)

-- a reference counts
abbrev pub held_cell : memory.Side → ℕ → Option (CellTree Outcome) → HeapTree → HeapTree
held_cell s k None h = h
held_cell s k (Some m) h = cell_put k (record m { references = held s m.references }) h

abbrev pub held_stream : memory.Side → ℕ → Option (StreamTree Value) → HeapTree → HeapTree
held_stream s k None h = h
held_stream s k (Some m) h = stream_put k (record m { references = held s m.references }) h

abbrev pub hold : Kind → ℕ → HeapTree → HeapTree
hold kind.Promise k h = held_cell Promise k (stored.thing h.cells.things k) h
hold kind.Future k h = held_cell Future k (stored.thing h.cells.things k) h
hold kind.PromiseStream k h = held_stream Promise k (stored.thing h.streams.things k) h
hold kind.FutureStream k h = held_stream Future k (stored.thing h.streams.things k) h

abbrev pub hold_all : List Ref → HeapTree → HeapTree
hold_all [] h = h
hold_all (r ∷ rs) h = hold_all rs (hold r.0 r.1 h)

-- a cell gets content, and fires: the fire is a future
abbrev pub set_cell : ℕ → Outcome → Option (CellTree Outcome) → HeapTree → HeapTree
set_cell k o None h = h
set_cell k o (Some m) h = pushed (fire k) (hold kind.Future k (cell_put k (record m { content = Some o }) h))

abbrev pub sent : Outcome → StreamTree Value → StreamTree Value
sent (outcome.Value v) m = with_item m v
sent (outcome.Error e) m = record m { end = Some e }

abbrev pub send_stream : ℕ → Outcome → Option (StreamTree Value) → HeapTree → HeapTree
send_stream k o None h = h
send_stream k o (Some m) h = pushed (fire k) (hold kind.FutureStream k (stream_put k (sent o m) h))

abbrev pub filled_in : Kind → ℕ → Outcome → HeapTree → HeapTree
filled_in kind.Promise k o h = set_cell k o (stored.thing h.cells.things k) h
filled_in kind.Future k o h = set_cell k o (stored.thing h.cells.things k) h
filled_in kind.PromiseStream k o h = send_stream k o (stored.thing h.streams.things k) h
filled_in kind.FutureStream k o h = send_stream k o (stored.thing h.streams.things k) h

-- the result of an effect goes where it belongs, by a task, and the actor goes on after that
abbrev pub given : (actor : ℕ) → stack.Task → List Ref → HeapTree → HeapTree
given i t rs h = pushed t (pushed (task.Run (actor_id i)) (hold_all rs h))

-- a reference counts no more, and what that leads to is done
abbrev pub lost_further : Kind → ℕ → Lost → HeapTree
lost_further kd k (h, after.Nothing) = h
lost_further kd k (h, after.Freed) = h
lost_further kd k (h, after.PortFreed) = h
lost_further kd k (h, after.Broken) = filled_in kd k (outcome.Error (record { 0 = broken_promise })) h
lost_further kd k (h, after.Cancel a) = cancelled a.0 h

module _ (r : RawTree) (h : HeapTree) (p : Proc Frame) where
  abbrev pub Held : Type 0
  Held = (x : Scan) (q : Ref) → Holds r x h p → There p q → Holds r (with_refs (q ∷ []) x) (hold q.0 q.1 h) p

  abbrev pub AllHeld : Type 0
  AllHeld =
      (x : Scan) (rs : List Ref) → Holds r x h p → AllThere p rs
      → Holds r (with_refs rs x) (hold_all rs h) p

  -- what is in hand goes into a cell
  abbrev pub Filled : Type 0
  Filled =
      (x : Scan) (kd : Kind) (k : ℕ) (c : Cell) (o : Outcome)
      → Holds r (with_refs (refs_in (value_in (outcome_of o))) x) h p
      → thing p.core.cells k ≡ Some c → RightCell kd c → is_complete c ≡ false
      → Holds r x (filled_in kd k o h) (on_core (fill k (outcome_of o)) p)

  -- a result is given: what it refers to counts, and its task has it
  abbrev pub Given : Type 0
  Given =
      (x : Scan) (i : ℕ) (t : stack.Task) (u : Task) (rs : List Ref) → Holds r x h p → AllThere p rs
      → SameTask p t u
      → ((s : _) (j : ℕ) → in_task s j u ≡ count s j rs)
      → Holds r x (given i t rs h) (on_core (λ c. work.pushed u (work.pushed (Run i) c)) p)

-- What holds besides of a process where actors leave their waits: waiters and operands agree, each operand has the kind of its
-- cell, and a suspended actor has nothing to do.
pub record MayWait (c : Core) : Type 0 where
  pub agree : Agree c
  pub cells : Rising 0 c.made c.cells
  pub kinds : (i : ℕ) (e : Entry) → thing c.entries i ≡ Some e → RightKinds c.cells e.operands
  pub idle : (i : ℕ) (e : Entry) → thing c.entries i ≡ Some e → e.suspended ≡ true → NoKeep i c.tasks

module _ (r : RawTree) (h : HeapTree) (p : Proc Frame) where
  -- an actor leaves its wait: a suspended one, or one that runs and has no operand to keep
  abbrev pub WaitLeft : Type 0
  WaitLeft =
      (x : Scan) (i : ℕ) → Holds r x h p → MayWait p.core → (s : At r h p i) → NoKeep i p.core.tasks
      → Holds r x (withdrawn i h) (on_core (left_wait i s.entry) p)

  -- one is cancelled
  abbrev pub ActorCancelled : Type 0
  ActorCancelled =
      (x : Scan) (i : ℕ) → Holds r x h p → MayWait p.core → (s : At r h p i)
      → Holds r x (cancelled i h) (on_core (cancel i s.entry) p)

  -- A reference is lost, and what that leads to is done, where a turn is left.
  abbrev pub LossDone : Type 0
  LossDone =
      (kd : Kind) (k n : ℕ) (c : Cell) → Losing r h p kd k c → MayWait p.core → p.core.left ≡ suc n
      → Same r (lost_further kd k (dropped kd k h)) (on_core (lose_ref (frames_hold p.actors) (side_of kd) k) p)
