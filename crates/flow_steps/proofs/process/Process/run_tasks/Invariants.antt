use Rattle.flow_steps.specs.declared.process.Process.{Process}
use Rattle.flow_steps.specs.declared.process.Next.{Next}
use Rattle.flow_steps.specs.Tasks.{Tasks}
use Rattle.flow_steps.specs.StuckTasks.{TasksStuck}
use Rattle.flow_steps.proofs.process.Process.run_tasks.Given as goal

-- what follows from here follows from the begin, and so does what goes astray
abbrev pub invariant-loop-step : goal.invariant-loop-step
invariant-loop-step l =
    ((n : Next) (q : Process) → Tasks l.code l.self n q → Tasks l.code l.fn.self n q)
    × (TasksStuck l.code l.self → TasksStuck l.code l.fn.self)
