-- No task of a process in memory that runs a valid program goes astray, and no burst.
use Rattle.std.specs.Prelude.{◌≡◌, ℕ, pos, List}
use Rattle.std.specs.declared.option.Option.TheVariants.{None}
use Rattle.flow_class.specs.Classes.{RawTree}
use Rattle.flow_code.specs.declared.program.Code.{Code}
use Rattle.flow_trace.specs.declared.line.Line.{Line}
use Rattle.flow_cancel.specs.declared.task.Task.{Task}
use Rattle.flow_meaning.specs.Burst.{Host}
use Rattle.flow_meaning.specs.Frame.{Frame}
use Rattle.flow_numbered.specs.Numbered.{Numbered}
use Rattle.flow_meaning.specs.Process.{Proc}
use Rattle.flow_steps.specs.declared.process.Process.{Process}
use Rattle.flow_steps.specs.Evaluating.{program_time}
use Rattle.flow_steps.specs.Tasks.{TopTaken}
use Rattle.flow_steps.specs.StuckTasks.{TaskStuck, TasksStuck}
use Rattle.flow_machine.specs.declared.host.RunFault.TheVariants.{Stuck}
use Rattle.flow_machine.specs.Breaking.{BreaksOff}
use Rattle.flow_burst_refinement.specs.Enabled.Tasking.{IsProgram}
use Rattle.flow_burst_refinement.specs.Invariants.Allowed.{BetweenTasks}
use Rattle.flow_step_refinement.specs.Resuming.{NoStaleWaits}
use Rattle.flow_machine_progress.specs.Stores.{NoPromiseStored}
use Rattle.flow_burst_refinement.specs.Bursts.{HostKeepsTime, RepresentsInWorld}

-- the newest task of a process between two tasks doesn't go astray
abbrev pub TaskNeverStuck : Type 0
TaskNeverStuck =
    (r : RawTree) (code : Code) (ls : List Line) (m start : Process) (p : Proc Frame) (t : Task) → IsProgram r code
    → BetweenTasks r ls m p → NoStaleWaits m.heap → NoPromiseStored m.heap → m.asked ≡ None → program_time m.time ≡ pos m.time
    → TopTaken t m start → TaskStuck code t start → ⊥

module _ {A W : Type 0} (serves : Host W) (shows : A → Numbered ℕ → W → Type 0) (wrote broke : A → List Line → A → Type 0)
    (code : Code) (processes : ℕ) (r : RawTree) where
  -- so no task of a burst does, and no burst
  abbrev pub TasksNeverStuck : Type 0
  TasksNeverStuck =
      IsProgram r code → (ls : List Line) (m : Process) (a : A) (p : Proc Frame) (w : W)
      → RepresentsInWorld serves shows wrote code processes r ls m a p w → NoPromiseStored m.heap → TasksStuck code m → ⊥

  abbrev pub BurstNeverStuck : Type 0
  BurstNeverStuck =
      IsProgram r code → HostKeepsTime serves → (ls : List Line) (m : Process) (a b : A) (p : Proc Frame) (w : W)
      → RepresentsInWorld serves shows wrote code processes r ls m a p w → NoPromiseStored m.heap
      → BreaksOff serves shows wrote broke code processes m a Stuck b → ⊥
