-- What a process keeps allows each of its tasks.
use Rattle.std.specs.Prelude.{◌≡◌, ◌≤◌, ℕ, ◌+◌, ◌^◌, List, ◌∷◌, length, slice_get}
use Rattle.std.specs.declared.option.Option.TheVariants.{None, Some}
use Rattle.flow_value.specs.declared.value.Value.{Value}
use Rattle.flow_class.specs.Classes.{ClassTree, RawTree}
use Rattle.flow_code.specs.declared.program.Code.{Code}
use Rattle.flow_trace.specs.declared.line.Line.{Line}
use Rattle.flow_numbered.specs.Numbered.{thing}
use Rattle.flow_frame.specs.Frames.{FrameTree}
use Rattle.flow_cancel.specs.declared.task.Task as stack
use Rattle.flow_cancel.specs.declared.task.Task.TheVariants as task
use Rattle.flow_cancel.specs.Heap.{HeapTree}
use Rattle.flow_meaning.specs.Requests.{Supply}
use Rattle.flow_meaning.specs.Process.{Task, Proc}
use Rattle.flow_meaning.specs.Step.{popped}
use Rattle.flow_meaning.specs.Frame.{Frame}
use Rattle.flow_invariants.specs.Unmarked.{AreWhole}
use Rattle.flow_steps.specs.declared.process.Process.{Process}
use Rattle.flow_steps.specs.Tasks.{TopTaken, IsDone}
use Rattle.flow_operation_refinement.specs.Seeing.{IsCodeOf}
use Rattle.flow_step_refinement.specs.Tasking.{MayBeDone, TaskGoes}
use Rattle.flow_burst_refinement.specs.Invariants.Allowed.{BetweenTasks}

-- Valid classes as they are written, the code of them, and few places in each.
pub record IsProgram (r : RawTree) (code : Code) : Type 0 where
  pub whole : AreWhole r
  pub coded : IsCodeOf r code
  pub few : (k : ℕ) (c : ClassTree) → slice_get r.classes k ≡ Some c → length c.slots + length c.locals ≤ 2 ^ 32

-- the actor of a task that is to take its next step, or to keep an operand, is in no state of a wait
abbrev pub StateIsNone : HeapTree → (actor : ℕ) → Type 0
StateIsNone h i = (f : FrameTree Value) → thing h.frames.things i ≡ Some f → f.state ≡ 0

abbrev pub InNoWait : HeapTree → stack.Task → Type 0
InNoWait h (task.Run i) = StateIsNone h i.0
InNoWait h (task.Keep i n k) = StateIsNone h i.0
InNoWait h t = Unit {0}

module _ (r : RawTree) (code : Code) (program : IsProgram r code) (ls : List Line) (m : Process) (p : Proc Frame)
    (now : BetweenTasks r ls m p) where
  -- the newest task may be done, as it is in memory
  abbrev pub AnyAllowed : Type 0
  AnyAllowed =
      (t : stack.Task) (start n : Process) (u : Task) (below : List Task) → TopTaken t m start → p.core.tasks ≡ u ∷ below
      → InNoWait m.heap t → IsDone code t start n → MayBeDone code r ls start (popped below p) t u

  -- so it is a row of steps of the class machine, or its actor takes its steps
  abbrev pub AnyGoes : Type 0
  AnyGoes =
      (w : Supply) (t : stack.Task) (start n : Process) → m.asked ≡ None → TopTaken t m start → InNoWait m.heap t
      → IsDone code t start n → TaskGoes code r ls w p start n
