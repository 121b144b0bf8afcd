-- What the laws of single tasks ask of a process holds, by what it keeps.
use Rattle.std.specs.Prelude.{◌≡◌, List, ◌∷◌}
use Rattle.std.specs.declared.option.Option.TheVariants.{None}
use Rattle.flow_class.specs.Classes.{RawTree}
use Rattle.flow_code.specs.declared.program.Code.{Code}
use Rattle.flow_trace.specs.declared.line.Line.{Line}
use Rattle.flow_cancel.specs.declared.task.Task as stack
use Rattle.flow_cancel.specs.declared.task.Task.TheVariants as task
use Rattle.flow_meaning.specs.Requests.{Supply}
use Rattle.flow_meaning.specs.Process.{Task, Proc}
use Rattle.flow_meaning.specs.Step.{popped}
use Rattle.flow_meaning.specs.Frame.{Frame}
use Rattle.flow_heap_refinement.specs.Counted.{nothing_in_hand}
use Rattle.flow_heap_refinement.specs.Rested.{Sorted}
use Rattle.flow_invariants.specs.Fitting.Laws.{AreValid}
use Rattle.flow_steps.specs.declared.process.Process.{Process}
use Rattle.flow_steps.specs.Tasks.{TopTaken, IsDone}
use Rattle.flow_operation_refinement.specs.Matching.{ProcessRepresents}
use Rattle.flow_operation_refinement.specs.Seeing.{IsCodeOf}
use Rattle.flow_operation_refinement.specs.Stepped.{IsEnabled, Steps}
use Rattle.flow_burst_refinement.specs.Invariants.Invariant.{ProcessInvariant}

-- a task that is done without a step of an actor
abbrev pub IsPlain : stack.Task → Type 0
IsPlain (task.Drop kd k) = Unit {0}
IsPlain (task.Fire k) = Unit {0}
IsPlain (task.Throw i e) = Unit {0}
IsPlain (task.Catch i e) = Unit {0}
IsPlain (task.Close i o) = Unit {0}
IsPlain t = ⊥

-- valid classes, and the code of them
pub record IsValidCode (r : RawTree) (code : Code) : Type 0 where
  pub valid : AreValid r
  pub coded : IsCodeOf r code

-- A process in memory between two tasks, and the one that it shows, which keeps what it has to.
pub record BetweenTasks (r : RawTree) (ls : List Line) (m : Process) (p : Proc Frame) : Type 0 where
  pub shown : ProcessRepresents r ls nothing_in_hand m p
  pub sorted : Sorted m.heap
  pub kept : ProcessInvariant r p

module _ (r : RawTree) (code : Code) (run : IsValidCode r code) (ls : List Line) (m : Process) (p : Proc Frame)
    (now : BetweenTasks r ls m p) where
  -- the newest task may be done, once it is off
  abbrev pub TaskAllowed : Type 0
  TaskAllowed =
      (t : stack.Task) (start : Process) (u : Task) (below : List Task) → TopTaken t m start → p.core.tasks ≡ u ∷ below → IsPlain t
      → IsEnabled code r start (popped below p) t

  -- so what memory does for it is a step of the class machine
  abbrev pub PlainSteps : Type 0
  PlainSteps =
      (s : Supply) (t : stack.Task) (start n : Process) → m.asked ≡ None → TopTaken t m start → IsPlain t → IsDone code t start n
      → Steps r ls s p n
