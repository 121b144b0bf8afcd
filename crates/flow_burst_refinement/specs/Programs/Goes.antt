-- A burst in memory that runs valid classes is a burst of the class machine.
use Rattle.std.specs.Prelude.{ℕ, List}
use Rattle.flow_class.specs.Classes.{RawTree}
use Rattle.flow_code.specs.declared.program.Code.{Code}
use Rattle.flow_trace.specs.declared.line.Line.{Line}
use Rattle.flow_numbered.specs.Numbered.{Numbered}
use Rattle.flow_meaning.specs.Process.{Proc}
use Rattle.flow_meaning.specs.Burst.{Host}
use Rattle.flow_meaning.specs.Frame.{Frame}
use Rattle.flow_steps.specs.declared.process.Process.{Process}
use Rattle.flow_machine.specs.declared.host.Burst.{Burst}
use Rattle.flow_machine.specs.Bursts.{Bursts}
use Rattle.flow_burst_refinement.specs.Enabled.Tasking.{IsProgram}
use Rattle.flow_burst_refinement.specs.Bursts.{HostKeepsTime, RepresentsInWorld, TasksGo, SimulatesBurst}

module _ {A W : Type 0} (serves : Host W) (shows : A → Numbered ℕ → W → Type 0) (wrote : A → List Line → A → Type 0) (code : Code)
    (processes : ℕ) (r : RawTree) where
  -- each task is a row of steps
  abbrev pub ProgramGoes : Type 0
  ProgramGoes = IsProgram r code → TasksGo serves shows wrote code processes r

  -- so a burst is one
  abbrev pub ProgramFollows : Type 0
  ProgramFollows =
      IsProgram r code → HostKeepsTime serves → (ls : List Line) (m n : Process) (a b : A) (p : Proc Frame) (w : W) (e : Burst)
      → RepresentsInWorld serves shows wrote code processes r ls m a p w → Bursts serves shows wrote code processes m a e n b
      → SimulatesBurst serves shows wrote code processes r ls a p w e n b
