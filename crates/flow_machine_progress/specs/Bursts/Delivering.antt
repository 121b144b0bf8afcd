-- What is brought to a process at the begin of an event doesn't go astray, nor does the burst that follows.
use Rattle.std.specs.Prelude.{◌≡◌, ℕ, true, List}
use Rattle.flow_value.specs.declared.value.Value.{Value}
use Rattle.flow_value.specs.declared.value.Kind.TheVariants as kind
use Rattle.flow_value.specs.declared.value.Outcome.{Outcome}
use Rattle.flow_value.specs.declared.value.Outcome.TheVariants as outcome
use Rattle.flow_class.specs.Classes.{RawTree}
use Rattle.flow_code.specs.declared.program.Code.{Code}
use Rattle.flow_trace.specs.declared.line.Line.{Line}
use Rattle.flow_meaning.specs.Burst.{Host}
use Rattle.flow_meaning.specs.Frame.{Frame}
use Rattle.flow_numbered.specs.Numbered.{Numbered}
use Rattle.flow_meaning.specs.Orderly.{UnlessStopped}
use Rattle.flow_meaning.specs.Process.{Proc}
use Rattle.flow_heap_refinement.specs.Rested.{has}
use Rattle.flow_heap_refinement.specs.Holds.{AllThere}
use Rattle.flow_steps.specs.declared.process.Process.{Process}
use Rattle.flow_steps.specs.Doing.{begun}
use Rattle.flow_steps.specs.Holding.{outcome_refs}
use Rattle.flow_steps.specs.StuckTasks.{AnswerStuck, BringStuck}
use Rattle.flow_machine.specs.declared.host.RunFault.TheVariants.{Stuck}
use Rattle.flow_machine.specs.Breaking.{BreaksOff}
use Rattle.flow_operation_refinement.specs.Working.{Sendable}
use Rattle.flow_machine_progress.specs.Stores.{NoPromiseStored}
use Rattle.flow_burst_refinement.specs.Invariants.Invariant.{ProcessInvariant}
use Rattle.flow_burst_refinement.specs.Enabled.Tasking.{IsProgram}
use Rattle.flow_burst_refinement.specs.Bursts.{HostKeepsTime}
use Rattle.flow_burst_refinement.specs.Boundaries.Delivering.{Resting, IsDelivered}
use Rattle.flow_burst_refinement.specs.Programs.Delivering.{HostRepresents}
use Rattle.flow_machine_progress.specs.Bursts.NeverStuck.{BurstNeverStuck}

module _ (r : RawTree) (m : Process) (p : Proc Frame) (now turns : ℕ) where
  -- the answer to an open request, whose result is unset
  abbrev pub AnswerNeverStuck : Type 0
  AnswerNeverStuck =
      (k : ℕ) (o : Outcome) → Resting r m p → has k p.core.requests ≡ true → Sendable p kind.Promise k
      → AllThere p (outcome_refs o) → AnswerStuck k o (begun now turns m).heap → ⊥

  -- an element, where the stream has no end
  abbrev pub ElementNeverStuck : Type 0
  ElementNeverStuck =
      (k : ℕ) (v : Value) → Resting r m p → Sendable p kind.PromiseStream k
      → AllThere p (outcome_refs (outcome.Value v))
      → BringStuck kind.PromiseStream k (outcome.Value v) (begun now turns m).heap → ⊥

module _ {A W : Type 0} (serves : Host W) (shows : A → Numbered ℕ → W → Type 0)
    (wrote broke : A → List Line → A → Type 0) (code : Code) (processes : ℕ) (r : RawTree) where
  -- an event that is spent does nothing more
  abbrev pub SpentNeverStuck : Type 0
  SpentNeverStuck =
      (m : Process) (a b : A) → m.spent ≡ true → BreaksOff serves shows wrote broke code processes m a Stuck b → ⊥

  -- So nothing that follows of what was brought goes astray.
  abbrev pub DeliveredNeverStuck : Type 0
  DeliveredNeverStuck =
      IsProgram r code → HostKeepsTime serves → BurstNeverStuck serves shows wrote broke code processes r
      → (now : ℕ) (memory : Process) (host left : A) (process : Proc Frame) (world : W) → IsDelivered r now memory process
      → NoPromiseStored memory.heap → UnlessStopped process.core.halted (ProcessInvariant r process)
      → HostRepresents serves shows processes now host process world
      → BreaksOff serves shows wrote broke code processes memory host Stuck left → ⊥
