-- What is brought to a process in memory at the begin of an event is brought to the process that it shows.
use Rattle.std.specs.Prelude.{◌≡◌, ℕ, true, []}
use Rattle.std.specs.declared.option.Option.TheVariants.{None}
use Rattle.flow_value.specs.declared.value.Value.{Value}
use Rattle.flow_value.specs.declared.value.Kind.TheVariants as kind
use Rattle.flow_value.specs.declared.value.Outcome.{Outcome}
use Rattle.flow_value.specs.declared.value.Outcome.TheVariants as outcome
use Rattle.flow_value.specs.View.{value_of, outcome_of}
use Rattle.flow_class.specs.Classes.{RawTree}
use Rattle.flow_meaning.specs.Process.{Proc}
use Rattle.flow_meaning.specs.Deliver.{begin, deliver, arrive, stop, vanish}
use Rattle.flow_meaning.specs.Step.{on_core}
use Rattle.flow_meaning.specs.Frame.{Frame}
use Rattle.flow_heap_refinement.specs.Counted.{nothing_in_hand}
use Rattle.flow_heap_refinement.specs.Rested.{has, Rested}
use Rattle.flow_heap_refinement.specs.Holds.{Holds, There, AllThere}
use Rattle.flow_steps.specs.declared.process.Process.{Process}
use Rattle.flow_steps.specs.Doing.{begun, vanished}
use Rattle.flow_steps.specs.Holding.{on_heap, outcome_refs}
use Rattle.flow_steps.specs.Delivering.{brought, answered, main_dropped}
use Rattle.flow_operation_refinement.specs.Matching.{ProcessRepresents, Matches}
use Rattle.flow_operation_refinement.specs.Working.{Sendable}

-- A process in memory between events shows one of the definitions: its lines and turns are those of the event before.
pub record ShownBetween (r : RawTree) (m : Process) (p : Proc Frame) : Type 0 where
  pub holds : Holds r nothing_in_hand m.heap p
  pub asked : m.asked ≡ None

module _ (r : RawTree) (m : Process) (p : Proc Frame) (now turns : ℕ) where
  -- an event begins
  abbrev pub EventBegins : Type 0
  EventBegins = ShownBetween r m p → ProcessRepresents r [] nothing_in_hand (begun now turns m) (on_core (begin turns) p)

  -- a timer or a disk answers
  abbrev pub Delivered : Type 0
  Delivered =
      (k : ℕ) (o : Outcome) → ShownBetween r m p → has k p.core.requests ≡ true → Sendable p kind.Promise k → AllThere p (outcome_refs o)
      → Matches r [] nothing_in_hand (brought kind.Promise k o (on_heap (answered k) (begun now turns m)))
      (on_core (deliver k (outcome_of o)) (on_core (begin turns) p))

  -- an element comes to the stream of a port, whether or not the stream has an end
  abbrev pub Arrived : Type 0
  Arrived =
      (k : ℕ) (v : Value) → ShownBetween r m p → There p (kind.PromiseStream, k) → AllThere p (outcome_refs (outcome.Value v))
      → Matches r [] nothing_in_hand (brought kind.PromiseStream k (outcome.Value v) (begun now turns m))
      (on_core (arrive k (value_of v)) (on_core (begin turns) p))

  -- the hold on the result of `main` is dropped
  abbrev pub Stopped : Type 0
  Stopped =
      ShownBetween r m p
      → Matches r [] nothing_in_hand (on_heap (main_dropped (begun now turns m).heap.main) (begun now turns m))
      (on_core stop (on_core (begin turns) p))

-- a loss of power: what is left rests
abbrev pub Vanished : Type 0
Vanished = (r : RawTree) (m : Process) (p : Proc Frame) → ShownBetween r m p
    → Rested r (vanished m).heap (vanish p) × ShownBetween r (vanished m) (vanish p)

-- a law on each process in memory, the one that it shows, and each event's time and turns
abbrev pub AtEvents : (RawTree → Process → Proc Frame → (now turns : ℕ) → Type 0) → Type 0
AtEvents law = (r : RawTree) (m : Process) (p : Proc Frame) (now turns : ℕ) → law r m p now turns
