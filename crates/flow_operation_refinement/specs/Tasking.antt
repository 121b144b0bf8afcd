-- Tasks that need no step of an actor are done in memory as the definitions do them.
use Rattle.std.specs.Prelude.{◌≡◌, ℕ, true, List, [], ◌∷◌}
use Rattle.std.specs.declared.option.Option.TheVariants.{None}
use Rattle.flow_base.specs.declared.ids.ActorId.{ActorId}
use Rattle.flow_base.specs.declared.ids.ErrorCode.{ErrorCode}
use Rattle.flow_value.specs.declared.value.Kind.{Kind}
use Rattle.flow_class.specs.Classes.{RawTree}
use Rattle.flow_code.specs.declared.program.Code.{Code}
use Rattle.flow_trace.specs.declared.line.Line.{Line}
use Rattle.flow_trace.specs.declared.line.Line.TheVariants as line
use Rattle.flow_cancel.specs.declared.task.Task.TheVariants as task
use Rattle.flow_cancel.specs.Heap.{actor_id, cell_id}
use Rattle.flow_meaning.specs.Cells.{FutureSide, side_of, Waiter, Cell, waiters}
use Rattle.flow_meaning.specs.Process.{Entry, Proc}
use Rattle.flow_meaning.specs.References.{Scan, one}
use Rattle.flow_meaning.specs.Dropping.{drop, fire}
use Rattle.flow_meaning.specs.Step.{handle, scanned, on_core}
use Rattle.flow_meaning.specs.Class.{classes}
use Rattle.flow_meaning.specs.Frame.{Frame, lose}
use Rattle.flow_heap_refinement.specs.Counted.{nothing_in_hand}
use Rattle.flow_heap_refinement.specs.Rested.{Sorted}
use Rattle.flow_heap_refinement.specs.Holds.{There}
use Rattle.flow_steps.specs.declared.frames.ControlPoint.{ControlPoint}
use Rattle.flow_steps.specs.declared.process.Process.{Process}
use Rattle.flow_steps.specs.Doing.{doing, telling}
use Rattle.flow_steps.specs.Points.{IsAtPoint}
use Rattle.flow_steps.specs.Tasks.{drops_one, Fires}
use Rattle.flow_operation_refinement.specs.Matching.{ProcessRepresents, Matches, Sound}
use Rattle.flow_operation_refinement.specs.Placing.{Acts}
use Rattle.flow_operation_refinement.specs.Taking.{PointMatches, AtWait, MayGo, Takeable}

-- a suspended actor that waits at a cell: it stands at its wait, and its locals are empty
pub record Suspended (code : Code) (r : RawTree) (m : Process) (p : Proc Frame) (w : Waiter) : Type 0 where
  pub entry : Entry
  pub frame : Frame
  pub acts : Acts r m.heap p w.actor entry frame
  pub suspended : entry.suspended ≡ true
  pub emptied : lose frame ≡ ([], frame)
  pub go : MayGo w.actor entry p.core
  pub group : ℕ
  pub stands : (s : ControlPoint) → IsAtPoint code.classes.items (actor_id w.actor) m s
      → PointMatches s w.actor frame × AtWait s frame group

-- A cell that fires: what a branch takes from it is there, and its oldest waiter is suspended.
pub record MayFire (code : Code) (r : RawTree) (m : Process) (p : Proc Frame) (k : ℕ) : Type 0 where
  pub cell : Cell
  pub takeable : Takeable p k cell
  pub waits : (w : Waiter) (ws : List Waiter) → waiters cell ≡ w ∷ ws → Suspended code r m p w

module _ (r : RawTree) (ls : List Line) (m : Process) (p : Proc Frame) where
  -- a reference in hand is dropped, where a turn is left
  abbrev pub DropDone : Type 0
  DropDone =
      (kd : Kind) (k : ℕ) → ProcessRepresents r ls (λ s j. one s j (side_of kd) k) m p → m.asked ≡ None → Sound p → Sorted m.heap
      → There p (kd, k)
      → Matches r ls nothing_in_hand (drops_one kd (cell_id k) m) (on_core (drop (scanned (classes r) p) kd k) p)

  -- a handler begins, with the line
  abbrev pub CatchDone : Type 0
  CatchDone =
      (x : Scan) (i : ActorId) (e : ErrorCode) → ProcessRepresents r ls x m p → m.asked ≡ None
      → ProcessRepresents r ls x (telling (line.Catch i e) (doing (task.Run i) m)) (on_core (handle i.0 e.0) p)

  -- the oldest waiter of a cell takes its branch, and the fire goes on after it; or the fire, which is in hand, ends
  abbrev pub FireDone : Type 0
  FireDone =
      (code : Code) (k : ℕ) (n : Process) → ProcessRepresents r ls (λ s j. one s j FutureSide k) m p → m.asked ≡ None → Sound p
      → Sorted m.heap → MayFire code r m p k → Fires code (cell_id k) m n
      → Matches r ls nothing_in_hand n (on_core (fire (scanned (classes r) p) k) p)
