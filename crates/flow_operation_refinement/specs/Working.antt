-- What a process in memory does to its own state is what the definitions do.
use Rattle.std.specs.Prelude.{◌≡◌, ℕ, suc, ◌+◌, nat_lt, false, List, [], ◌∷◌, if◌then◌else◌}
use Rattle.std.specs.declared.option.Option.TheVariants.{None, Some}
use Rattle.flow_base.specs.declared.ids.ActorId.{ActorId}
use Rattle.flow_value.specs.declared.value.Value.{Value}
use Rattle.flow_value.specs.declared.value.Outcome.{Outcome}
use Rattle.flow_value.specs.declared.value.Kind.{Kind}
use Rattle.flow_value.specs.View.{value_of, outcome_of}
use Rattle.flow_class.specs.Classes.{RawTree}
use Rattle.flow_trace.specs.declared.line.Line.{Line}
use Rattle.flow_cancel.specs.declared.task.Task as stack
use Rattle.flow_numbered.specs.Numbered.{thing}
use Rattle.flow_meaning.specs.Requests as asks
use Rattle.flow_meaning.specs.Cells.{Ref, side_of, Cell, is_complete}
use Rattle.flow_meaning.specs.Process.{Task, Entry, Core, Proc}
use Rattle.flow_meaning.specs.References.{Scan, one}
use Rattle.flow_meaning.specs.Work.{turn, pushed, dropping, fill, owner, cancel_owner, cancel}
use Rattle.flow_meaning.specs.Dropping.{lose_ref, break_cell}
use Rattle.flow_meaning.specs.Effects.{gives}
use Rattle.flow_meaning.specs.Step.{kept_by, on_core}
use Rattle.flow_meaning.specs.Frame.{Frame}
use Rattle.flow_heap_refinement.specs.Representing.{spot_of_actor}
use Rattle.flow_heap_refinement.specs.Counted.{frames_hold, nothing_in_hand}
use Rattle.flow_heap_refinement.specs.Rested.{Sorted}
use Rattle.flow_heap_refinement.specs.Changes.{SameTask}
use Rattle.flow_heap_refinement.specs.Acting.{At, NoKeep}
use Rattle.flow_heap_refinement.specs.Leaving.{left_wait}
use Rattle.flow_heap_refinement.specs.Losing.{RightCell}
use Rattle.flow_heap_refinement.specs.Holds.{with_refs, There, AllThere, hold, hold_all, filled_in, MayWait}
use Rattle.flow_steps.specs.declared.call.Goal.{Goal}
use Rattle.flow_steps.specs.declared.call.Goal.TheVariants as goal
use Rattle.flow_steps.specs.declared.process.Process.{Process}
use Rattle.flow_steps.specs.Doing.{turned, doing, departed, stopped}
use Rattle.flow_steps.specs.Holding.{on_heap, value_refs, outcome_refs, refs_dropped, Gives, broken, lost, owner_cancelled}
use Rattle.flow_operation_refinement.specs.Matching.{ProcessRepresents, Matches, with_task, Sound}

-- where the result of an effect goes: an operand is the next one of the actor's wait
abbrev pub SameGoal : Proc Frame → (actor : ℕ) → Goal → asks.Goal → Type 0
SameGoal p i goal.Stored asks.Stored = Unit {0}
SameGoal p i (goal.Kept n) (asks.Kept spot) =
    (spot ≡ spot_of_actor p.actors i) × (n ≡ spot.first + kept_by (thing p.core.entries i))
SameGoal p i g h = ⊥

-- a cell to which more can be sent by a reference of this kind
pub record Sendable (p : Proc Frame) (kd : Kind) (k : ℕ) : Type 0 where
  pub cell : Cell
  pub at : thing p.core.cells k ≡ Some cell
  pub right : RightCell kd cell
  pub incomplete : is_complete cell ≡ false

module _ (r : RawTree) (ls : List Line) (x : Scan) (m : Process) (p : Proc Frame) where
  -- A turn is taken, and what is done after it follows; or none is left, and the event is spent.
  abbrev pub TurnTaken : Type 0
  TurnTaken =
      (y : Scan) (f : Process → Process) (act : Core → Core) → ProcessRepresents r ls x m p
      → ((n : ℕ) → m.left ≡ suc n → ProcessRepresents r ls x (turned m) (on_core (λ c. record c { left = n }) p)
      → Matches r ls y (f (turned m)) (on_core act (on_core (λ c. record c { left = n }) p)))
      → Matches r ls y (if nat_lt 0 m.left then f (turned m) else turned m) (on_core (λ c. turn c act) p)

  -- a task comes on top, with what it holds
  abbrev pub TaskDone : Type 0
  TaskDone =
      (t : stack.Task) (u : Task) → ProcessRepresents r ls (with_task u x) m p → SameTask p t u
      → ProcessRepresents r ls x (doing t m) (on_core (pushed u) p)

  -- references count
  abbrev pub RefHeld : Type 0
  RefHeld =
      (q : Ref) → ProcessRepresents r ls x m p → There p q
      → ProcessRepresents r ls (with_refs (q ∷ []) x) (on_heap (hold q.0 q.1) m) p

  abbrev pub RefsHeld : Type 0
  RefsHeld =
      (qs : List Ref) → ProcessRepresents r ls x m p → AllThere p qs → ProcessRepresents r ls (with_refs qs x) (on_heap (hold_all qs) m) p

  -- those in hand are dropped
  abbrev pub RefsDropped : Type 0
  RefsDropped =
      (qs : List Ref) → ProcessRepresents r ls (with_refs qs x) m p
      → ProcessRepresents r ls x (on_heap (refs_dropped qs) m) (on_core (dropping qs) p)

  -- an outcome in hand goes into a cell
  abbrev pub CellFilled : Type 0
  CellFilled =
      (kd : Kind) (k : ℕ) (o : Outcome) → ProcessRepresents r ls (with_refs (outcome_refs o) x) m p → Sendable p kd k
      → ProcessRepresents r ls x (on_heap (filled_in kd k o) m) (on_core (fill k (outcome_of o)) p)

  -- the result of an effect is given
  abbrev pub ResultGiven : Type 0
  ResultGiven =
      (g : Goal) (h : asks.Goal) (i : ActorId) (v : Value) (n : Process) → ProcessRepresents r ls x m p
      → AllThere p (value_refs v) → SameGoal p i.0 g h → Gives g i v m n
      → ProcessRepresents r ls x n (on_core (gives i.0 h (value_of v)) p)

  -- a cell is broken, where a turn is left, and the line is told
  abbrev pub CellBroken : Type 0
  CellBroken =
      (kd : Kind) (k : ℕ) → ProcessRepresents r ls x m p → m.asked ≡ None → Sendable p kd k
      → Matches r ls x (broken kd k m) (on_core (break_cell k) p)

  -- an actor leaves its wait: a suspended one, or one that runs and has no operand to keep
  abbrev pub ActorDeparted : Type 0
  ActorDeparted =
      (i : ℕ) → ProcessRepresents r ls x m p → MayWait p.core → (s : At r m.heap p i) → NoKeep i p.core.tasks
      → ProcessRepresents r ls x (departed i m) (on_core (left_wait i s.entry) p)

  -- one is cancelled, and the line is told
  abbrev pub ActorStopped : Type 0
  ActorStopped =
      (i : ℕ) (e : Entry) → ProcessRepresents r ls x m p → m.asked ≡ None → MayWait p.core → thing p.core.entries i ≡ Some e
      → ProcessRepresents r ls x (stopped i m) (on_core (cancel i e) p)

  -- the unfinished and unmarked actor whose result a cell is, if there is one, is cancelled
  abbrev pub OwnerStopped : Type 0
  OwnerStopped =
      (k : ℕ) → ProcessRepresents r ls x m p → m.asked ≡ None → Sound p → Sorted m.heap
      → ProcessRepresents r ls x (owner_cancelled k m) (on_core (λ c. cancel_owner (owner k c.entries) c) p)

-- A reference in hand counts no more, and what that leads to is done.
abbrev pub RefLost : RawTree → List Line → Process → Proc Frame → Type 0
RefLost r ls m p =
    (kd : Kind) (k : ℕ) → ProcessRepresents r ls (λ s j. one s j (side_of kd) k) m p → m.asked ≡ None → Sound p → Sorted m.heap
    → There p (kd, k) → Matches r ls nothing_in_hand (lost kd k m) (on_core (lose_ref (frames_hold p.actors) (side_of kd) k) p)
