use Rattle.flow_steps.specs.declared.process.Process.{Process}
use Rattle.flow_steps.specs.Stepping.{Runs}
use Rattle.flow_steps.specs.StuckSteps.{RunsStuck}
use Rattle.flow_steps.proofs.process.Process.run_from.Given as goal

-- what follows from here follows from the begin
abbrev pub invariant-loop-step : goal.invariant-loop-step
invariant-loop-step l =
    ((q : Process) → Runs l.code l.stand l.self q → Runs l.code l.fn.stand l.fn.self q)
    × (RunsStuck l.code l.stand l.self → RunsStuck l.code l.fn.stand l.fn.self)
