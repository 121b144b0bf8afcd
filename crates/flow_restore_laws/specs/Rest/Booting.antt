-- The call of `main` in memory and the burst that follows are a boot of the class machine and its burst.
use Rattle.std.specs.Prelude.{ℕ, List, []}
use Rattle.flow_base.specs.declared.ids.ProcId.{ProcId}
use Rattle.flow_class.specs.Classes.{RawTree}
use Rattle.flow_code.specs.declared.program.Code.{Code}
use Rattle.flow_trace.specs.declared.line.Line.{Line}
use Rattle.flow_meaning.specs.Burst.{Host}
use Rattle.flow_meaning.specs.Class.{classes}
use Rattle.flow_meaning.specs.Deliver.{begin, boot}
use Rattle.flow_meaning.specs.Frame.{Frame}
use Rattle.flow_numbered.specs.Numbered.{Numbered}
use Rattle.flow_meaning.specs.Process.{Proc}
use Rattle.flow_meaning.specs.Step.{on_core}
use Rattle.flow_steps.specs.declared.process.Process.{Process}
use Rattle.flow_steps.specs.Doing.{begun}
use Rattle.flow_machine.specs.declared.host.Burst.{Burst}
use Rattle.flow_machine.specs.Bursts.{MainBursts}
use Rattle.flow_burst_refinement.specs.Enabled.Tasking.{IsProgram}
use Rattle.flow_burst_refinement.specs.Bursts.{HostKeepsTime, SimulatesBurst}
use Rattle.flow_burst_refinement.specs.Boundaries.Delivering.{MayBoot}
use Rattle.flow_burst_refinement.specs.Programs.Delivering.{HostRepresents}

module _ {A W : Type 0} (serves : Host W) (shows : A → Numbered ℕ → W → Type 0)
    (wrote : A → List Line → A → Type 0) (code : Code) (processes : ℕ) (r : RawTree) where
  -- a process that doesn't hold its `main`, between events, in a world whose time programs can tell
  abbrev pub BootFollows : Type 0
  BootFollows =
      IsProgram r code → HostKeepsTime serves
      → (now turns : ℕ) (me : ProcId) (memory after : Process) (host left : A) (process : Proc Frame) (world : W) (end : Burst)
      → MayBoot r turns me memory process → HostRepresents serves shows processes now host process world
      → MainBursts serves shows wrote code processes me (begun now turns memory) host end after left
      → SimulatesBurst serves shows wrote code processes r [] host (boot (classes r) me.0 (on_core (begin turns) process)) world end
      after left
