-- A task that needs no step of an actor, done in memory, is a step of the class machine.
use Rattle.std.specs.Prelude.{◌≡◌, List, ◌∷◌}
use Rattle.std.specs.declared.option.Option.{Option}
use Rattle.std.specs.declared.option.Option.TheVariants.{None, Some}
use Rattle.flow_class.specs.Classes.{RawTree}
use Rattle.flow_code.specs.declared.program.Code.{Code}
use Rattle.flow_trace.specs.declared.line.Line.{Line}
use Rattle.flow_cancel.specs.declared.task.Task as stack
use Rattle.flow_cancel.specs.declared.task.Task.TheVariants as task
use Rattle.flow_meaning.specs.Requests.{Supply}
use Rattle.flow_meaning.specs.Process.{Task, Entry, Proc}
use Rattle.flow_meaning.specs.Step.{silent, popped, step}
use Rattle.flow_meaning.specs.Class.{classes}
use Rattle.flow_meaning.specs.Frame.{Frame}
use Rattle.flow_heap_refinement.specs.Counted.{nothing_in_hand}
use Rattle.flow_heap_refinement.specs.Rested.{Sorted}
use Rattle.flow_heap_refinement.specs.Changes.{SameTask}
use Rattle.flow_heap_refinement.specs.Holds.{There}
use Rattle.flow_steps.specs.declared.call.Call.{Call}
use Rattle.flow_steps.specs.declared.call.Call.TheVariants as call
use Rattle.flow_steps.specs.declared.process.Process.{Process}
use Rattle.flow_steps.specs.Tasks.{TopTaken, IsDone}
use Rattle.flow_operation_refinement.specs.Matching.{ProcessRepresents, Matches, Sound, with_task}
use Rattle.flow_operation_refinement.specs.Placing.{Acts}
use Rattle.flow_operation_refinement.specs.Closing.{MayClose}
use Rattle.flow_operation_refinement.specs.Tasking.{MayFire}
use Rattle.flow_operation_refinement.specs.Throwing.{MayThrow}

-- what a process asks that is no actor's: nothing, that a line be written, or that a port be heard no more
abbrev pub OnlyTells : Option Call → Type 0
OnlyTells None = Unit {0}
OnlyTells (Some (call.Line l)) = Unit {0}
OnlyTells (Some (call.Unlisten k)) = Unit {0}
OnlyTells _ = ⊥

-- The newest task is taken off, in memory and in the process, and what it holds is in hand.
pub record TopOff (r : RawTree) (ls : List Line) (t : stack.Task) (start : Process) (p : Proc Frame) : Type 0 where
  pub top : Task
  pub below : List Task
  pub tasks : p.core.tasks ≡ top ∷ below
  pub same : SameTask p t top
  pub shown : ProcessRepresents r ls (with_task top nothing_in_hand) start (popped below p)

abbrev pub TopFollows : RawTree → List Line → Process → Proc Frame → Type 0
TopFollows r ls m p =
    (t : stack.Task) (start : Process) → ProcessRepresents r ls nothing_in_hand m p → TopTaken t m start → TopOff r ls t start p

-- What has to hold of a task when it is off. Of those that go on with steps of an actor nothing is said here.
abbrev pub MayDo : Code → RawTree → Process → Proc Frame → stack.Task → Type 0
MayDo code r m p (task.Drop kd k) = There p (kd, k.0)
MayDo code r m p (task.Fire k) = MayFire code r m p k.0
MayDo code r m p (task.Close i o) = MayClose r m.heap p i.0 o.value
MayDo code r m p (task.Throw i err) = (e : Entry) × ((f : Frame) × (Acts r m.heap p i.0 e f × MayThrow code m p i e f))
MayDo code r m p (task.Catch i err) = Unit {0}
MayDo code r m p _ = ⊥

pub record IsEnabled (code : Code) (r : RawTree) (m : Process) (p : Proc Frame) (t : stack.Task) : Type 0 where
  pub sound : Sound p
  pub sorted : Sorted m.heap
  pub may : MayDo code r m p t

-- a step of the class machine, which asks nothing of the world
pub record Steps (r : RawTree) (ls : List Line) (s : Supply) (p : Proc Frame) (n : Process) : Type 0 where
  pub after : Proc Frame
  pub steps : step (classes r) s p ≡ Some (silent after)
  pub follows : Matches r ls nothing_in_hand n after

abbrev pub TaskFollows : RawTree → List Line → Process → Proc Frame → Type 0
TaskFollows r ls m p =
    (code : Code) (s : Supply) (t : stack.Task) (start n : Process) → ProcessRepresents r ls nothing_in_hand m p → m.asked ≡ None
    → TopTaken t m start
    → ((below : List Task) (u : Task) → p.core.tasks ≡ u ∷ below → IsEnabled code r start (popped below p) t)
    → IsDone code t start n → Steps r ls s p n
