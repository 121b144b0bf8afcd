-- A task that needs no step of an actor doesn't go astray, in a process that runs a valid program.
use Rattle.std.specs.Prelude.{List}
use Rattle.flow_class.specs.Classes.{RawTree}
use Rattle.flow_code.specs.declared.program.Code.{Code}
use Rattle.flow_trace.specs.declared.line.Line.{Line}
use Rattle.flow_cancel.specs.declared.task.Task.{Task}
use Rattle.flow_meaning.specs.Frame.{Frame}
use Rattle.flow_meaning.specs.Process.{Proc}
use Rattle.flow_steps.specs.declared.process.Process.{Process}
use Rattle.flow_steps.specs.Tasks.{TopTaken}
use Rattle.flow_steps.specs.StuckTasks.{TaskStuck}
use Rattle.flow_burst_refinement.specs.Enabled.Tasking.{IsProgram}
use Rattle.flow_burst_refinement.specs.Invariants.Allowed.{IsPlain, BetweenTasks}

abbrev pub SimpleTaskNeverStuck : Type 0
SimpleTaskNeverStuck =
    (r : RawTree) (code : Code) (ls : List Line) (m start : Process) (p : Proc Frame) (t : Task)
    → IsProgram r code → BetweenTasks r ls m p → TopTaken t m start → IsPlain t → TaskStuck code t start → ⊥
