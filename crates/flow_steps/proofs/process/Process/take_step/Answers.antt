use Rattle.flow_steps.proofs.Stepped.{steps_by}
use Rattle.flow_steps.proofs.Going.{instruction_stuck}
use Rattle.flow_steps.proofs.process.Process.take_step.Goals as goal

pub returns-in-Some-clause-done : goal.returns-in-Some-clause-done
returns-in-Some-clause-done c = steps_by _ _ _ _ _ _ c.in-Some.ensures c.instruction.ensures.done

pub returns-in-Some-clause-stuck : goal.returns-in-Some-clause-stuck
returns-in-Some-clause-stuck c = instruction_stuck _ _ _ _ _ c.in-Some.ensures c.instruction.ensures.stuck
