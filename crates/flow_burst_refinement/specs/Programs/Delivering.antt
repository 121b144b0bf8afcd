-- The burst of an event that was brought to a process in memory is a burst of the class machine.
use Rattle.std.specs.Prelude.{◌≡◌, ℕ, pos, List, []}
use Rattle.std.specs.declared.option.Option.TheVariants.{None}
use Rattle.flow_class.specs.Classes.{RawTree}
use Rattle.flow_code.specs.declared.program.Code.{Code}
use Rattle.flow_trace.specs.declared.line.Line.{Line}
use Rattle.flow_numbered.specs.Numbered.{Numbered}
use Rattle.flow_meaning.specs.Process.{Proc}
use Rattle.flow_meaning.specs.Orderly.{UnlessStopped}
use Rattle.flow_meaning.specs.Burst.{Host}
use Rattle.flow_meaning.specs.Frame.{Frame}
use Rattle.flow_steps.specs.declared.process.Process.{Process}
use Rattle.flow_steps.specs.Evaluating.{program_time}
use Rattle.flow_machine.specs.declared.host.Burst.{Burst}
use Rattle.flow_machine.specs.declared.host.Burst.TheVariants as burst
use Rattle.flow_machine.specs.Bursts.{Bursts}
use Rattle.flow_burst_refinement.specs.Enabled.Tasking.{IsProgram}
use Rattle.flow_burst_refinement.specs.Bursts.{HostKeepsTime, SimulatesBurst}
use Rattle.flow_burst_refinement.specs.Invariants.Invariant.{ProcessInvariant}
use Rattle.flow_burst_refinement.specs.Boundaries.Delivering.{Resting, IsDelivered}

-- A host in memory represents the world around a process: with the process's ports, at a time that programs can tell, as the world of
-- one of so many processes.
pub record HostRepresents {A W : Type 0} (serves : Host W) (shows : A → Numbered ℕ → W → Type 0) (processes now : ℕ) (host : A)
    (process : Proc Frame) (world : W) : Type 0 where
  pub shown : shows host process.core.ports world
  pub clock : program_time now ≡ pos now
  pub time : now ≡ (serves.supply world).now
  pub among : processes ≡ (serves.supply world).processes

module _ {A W : Type 0} (serves : Host W) (shows : A → Numbered ℕ → W → Type 0)
    (wrote : A → List Line → A → Type 0) (code : Code) (processes : ℕ) (r : RawTree) where
  abbrev pub EventFollows : Type 0
  EventFollows =
      IsProgram r code → HostKeepsTime serves
      → (now : ℕ) (memory after : Process) (host left : A) (process : Proc Frame) (world : W) (end : Burst)
      → IsDelivered r now memory process → UnlessStopped process.core.halted (ProcessInvariant r process)
      → HostRepresents serves shows processes now host process world
      → Bursts serves shows wrote code processes memory host end after left
      → SimulatesBurst serves shows wrote code processes r [] host process world end after left

  -- A process in memory that rests after a burst rests for the next event, and its lines are those that were written.
  pub record RestsOn (n : Process) (b : A) (q : Proc Frame) (u : W) (ls : List Line) : Type 0 where
    pub resting : Resting r n q
    pub goes : q.core.halted ≡ None
    pub tasks : q.core.tasks ≡ []
    pub lines : q.core.lines ≡ ls
    pub world : shows b q.core.ports u

  abbrev pub EventRests : Type 0
  EventRests =
      (n : Process) (a b : A) (p : Proc Frame) (w : W)
      → (f : SimulatesBurst serves shows wrote code processes r [] a p w burst.Rested n b)
      → RestsOn n b f.after f.out f.lines
