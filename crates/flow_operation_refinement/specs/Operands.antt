-- An operand is kept in memory as the definitions keep it.
use Rattle.std.specs.Prelude.{◌≡◌, ℕ, false, List, [], ◌∷◌, length}
use Rattle.std.specs.declared.option.Option.TheVariants.{None, Some}
use Rattle.flow_class.specs.Classes.{RawTree}
use Rattle.flow_frame.specs.declared.held.Held.{Held}
use Rattle.flow_trace.specs.declared.line.Line.{Line}
use Rattle.flow_cancel.specs.Heap.{cell_id}
use Rattle.flow_numbered.specs.Numbered.{thing, put}
use Rattle.flow_meaning.specs.Cells.{Ref, Cell}
use Rattle.flow_meaning.specs.Process.{Run, Entry, Proc}
use Rattle.flow_meaning.specs.References.{Scan}
use Rattle.flow_meaning.specs.Work.{pushed, is_ready_at}
use Rattle.flow_meaning.specs.Step.{OperandFate, verdict, GoesOn, with_operand, keep_by, proc, on_core}
use Rattle.flow_meaning.specs.Class.{classes}
use Rattle.flow_meaning.specs.Frame.{Frame}
use Rattle.flow_heap_refinement.specs.Representing.{wait_spot}
use Rattle.flow_heap_refinement.specs.Leaving.{wait_kind}
use Rattle.flow_heap_refinement.specs.FrameChanges.{next_callback}
use Rattle.flow_heap_refinement.specs.Holds.{with_refs}
use Rattle.flow_steps.specs.declared.frames.ControlPoint.{ControlPoint}
use Rattle.flow_steps.specs.declared.next.Pace.{Pace}
use Rattle.flow_steps.specs.declared.next.Pace.TheVariants.{On, Off}
use Rattle.flow_steps.specs.declared.process.Process.{Process}
use Rattle.flow_steps.specs.Waiting.{KeepsOperand}
use Rattle.flow_operation_refinement.specs.Matching.{Matches}
use Rattle.flow_operation_refinement.specs.Placing.{RepresentsActor}
use Rattle.flow_operation_refinement.specs.Taking.{PointMatches, AtWait, MayGo, Takeable}

-- An actor that runs at a wait keeps one more operand: a reference of the kind by which one waits at its cell, which is there.
pub record MayKeep (s : ControlPoint) (p : Proc Frame) (i group : ℕ) (q : Ref) (e : Entry) (f : Frame) : Type 0 where
  pub standing : PointMatches s i f
  pub wait : AtWait s f group
  pub go : MayGo i e p.core
  pub awake : e.suspended ≡ false
  pub cell : Cell
  pub takeable : Takeable p q.1 cell
  pub kind : q.0 ≡ wait_kind (Some cell)

-- the callback of the next operand
abbrev pub callback_of : Entry → Frame → Ref → Held
callback_of e f q = record { callback = next_callback e f; cell = cell_id q.1 }

-- the entry with one more operand
abbrev pub with_one : Entry → Frame → Ref → Entry
with_one e f q = with_operand (wait_spot f) q e

module _ (r : RawTree) (ls : List Line) (m : Process) (p : Proc Frame) (i : ℕ) (e : Entry) (f : Frame) where
  -- what the definitions say of the cell of an operand
  abbrev pub verdict_on : Ref → OperandFate
  verdict_on q = verdict e.marked (is_ready_at (thing p.core.cells q.1))

  -- the process in which the operand is kept
  abbrev pub kept_in : Ref → Proc Frame
  kept_in q = proc (record p.core { entries = put p.core.entries i (with_one e f q) }) p.actors

  -- What comes of that: the actor goes on, or it doesn't and the process does what the definitions say.
  abbrev pub AfterKeeping : Scan → ControlPoint → Ref → Pace → Process → Type 0
  AfterKeeping x s q (On t) n =
      (t ≡ s) × (verdict_on q ≡ GoesOn) × RepresentsActor r ls x n (kept_in q) i (with_one e f q) f
  AfterKeeping x s q Off n =
      Matches r ls x n (keep_by (classes r) i (length e.operands) (verdict_on q) q (with_one e f q) f (on_core (pushed (Run i)) p)).0

  -- an operand in hand is kept; the actor's own task is off
  abbrev pub OperandFollows : Type 0
  OperandFollows =
      (x : Scan) (s : ControlPoint) (group : ℕ) (q : Ref) (pace : Pace) (n : Process)
      → (st : RepresentsActor r ls (with_refs (q ∷ []) x) m p i e f) → st.acts.memory.state ≡ 0 → m.asked ≡ None
      → MayKeep s p i group q e f → KeepsOperand s (callback_of e f q) m pace n → AfterKeeping x s q pace n
