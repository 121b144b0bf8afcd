-- What is brought to a process in memory at the begin of an event leaves it as bursts need it.
use Rattle.std.specs.Prelude.{◌≡◌, ◌⊎◌, ℕ, true, []}
use Rattle.std.specs.declared.option.Option.TheVariants.{None}
use Rattle.flow_base.specs.declared.ids.ProcId.{ProcId}
use Rattle.flow_value.specs.declared.value.Value.{Value}
use Rattle.flow_value.specs.declared.value.Kind.TheVariants as kind
use Rattle.flow_value.specs.declared.value.Outcome.{Outcome}
use Rattle.flow_value.specs.declared.value.Outcome.TheVariants as outcome
use Rattle.flow_value.specs.View.{value_of, outcome_of}
use Rattle.flow_class.specs.Classes.{RawTree}
use Rattle.flow_meaning.specs.Class.{classes}
use Rattle.flow_meaning.specs.Process.{Proc}
use Rattle.flow_meaning.specs.Orderly.{UnlessStopped}
use Rattle.flow_meaning.specs.Deliver.{begin, boot, deliver, arrive, stop}
use Rattle.flow_meaning.specs.Step.{on_core}
use Rattle.flow_meaning.specs.Frame.{Frame}
use Rattle.flow_heap_refinement.specs.Counted.{nothing_in_hand}
use Rattle.flow_heap_refinement.specs.Rested.{has, Sorted}
use Rattle.flow_heap_refinement.specs.Holds.{There, AllThere}
use Rattle.flow_steps.specs.declared.process.Process.{Process}
use Rattle.flow_steps.specs.Doing.{begun}
use Rattle.flow_steps.specs.Holding.{on_heap, outcome_refs}
use Rattle.flow_steps.specs.Delivering.{brought, answered, main_dropped}
use Rattle.flow_operation_refinement.specs.Matching.{AreSpent, Matches}
use Rattle.flow_operation_refinement.specs.Working.{Sendable}
use Rattle.flow_step_refinement.specs.Effects.Events.{ShownBetween}
use Rattle.flow_step_refinement.specs.Resuming.{NoStaleWaits}
use Rattle.flow_burst_refinement.specs.Invariants.Invariant.{ProcessInvariant}
use Rattle.flow_burst_refinement.specs.Invariants.Allowed.{BetweenTasks}

-- a process in memory between events, in order, and the one that it shows
pub record Resting (r : RawTree) (m : Process) (p : Proc Frame) : Type 0 where
  pub shown : ShownBetween r m p
  pub sorted : Sorted m.heap
  pub poised : NoStaleWaits m.heap

-- one that doesn't hold its `main`, and keeps what it has to with its turns and after a boot
pub record MayBoot (r : RawTree) (turns : ℕ) (me : ProcId) (memory : Process) (process : Proc Frame) : Type 0 where
  pub resting : Resting r memory process
  pub kept : ProcessInvariant r (on_core (begin turns) process)
  pub no_main : process.core.main ≡ None
  pub booted : let after = boot (classes r) me.0 (on_core (begin turns) process) in
      UnlessStopped after.core.halted (ProcessInvariant r after)

-- One to which something was brought: it shows the other, or the event is spent; it is in order, at its
-- time, and asks nothing.
pub record IsDelivered (r : RawTree) (now : ℕ) (n : Process) (p : Proc Frame) : Type 0 where
  pub follows : Matches r [] nothing_in_hand n p
  pub sorted : Sorted n.heap
  pub poised : NoStaleWaits n.heap
  pub asked : n.asked ≡ None
  pub time : n.time ≡ now

module _ (r : RawTree) (m : Process) (p : Proc Frame) (now turns : ℕ) where
  -- nothing is brought
  abbrev pub BeginBrings : Type 0
  BeginBrings = Resting r m p → IsDelivered r now (begun now turns m) (on_core (begin turns) p)

  -- a timer or a disk answers
  abbrev pub AnswerBrings : Type 0
  AnswerBrings =
      (k : ℕ) (o : Outcome) → Resting r m p → has k p.core.requests ≡ true → Sendable p kind.Promise k
      → AllThere p (outcome_refs o)
      → IsDelivered r now (brought kind.Promise k o (on_heap (answered k) (begun now turns m)))
      (on_core (deliver k (outcome_of o)) (on_core (begin turns) p))

  -- an element comes to the stream of a port, whether or not the stream has an end
  abbrev pub ElementBrings : Type 0
  ElementBrings =
      (k : ℕ) (v : Value) → Resting r m p → There p (kind.PromiseStream, k)
      → AllThere p (outcome_refs (outcome.Value v))
      → IsDelivered r now (brought kind.PromiseStream k (outcome.Value v) (begun now turns m))
      (on_core (arrive k (value_of v)) (on_core (begin turns) p))

  -- the hold on the result of `main` is dropped
  abbrev pub StopBrings : Type 0
  StopBrings =
      Resting r m p
      → IsDelivered r now (on_heap (main_dropped (begun now turns m).heap.main) (begun now turns m))
      (on_core stop (on_core (begin turns) p))

-- So a burst begins, by what the process keeps, unless the event is spent.
abbrev pub BurstBegins : Type 0
BurstBegins =
    (r : RawTree) (now : ℕ) (n : Process) (p : Proc Frame) → IsDelivered r now n p
    → UnlessStopped p.core.halted (ProcessInvariant r p) → BetweenTasks r [] n p ⊎ AreSpent [] n p

abbrev pub AtBegins : (RawTree → Process → Proc Frame → (now turns : ℕ) → Type 0) → Type 0
AtBegins law = (r : RawTree) (m : Process) (p : Proc Frame) (now turns : ℕ) → law r m p now turns
