use Rattle.flow_steps.proofs.Evaluating.{value_given, value_breaks, rest_gets_stuck, value_stuck}
use Rattle.flow_steps.proofs.process.Process.set_aim.Goals as goal

pub returns-in-Ok-clause-done : goal.returns-in-Ok-clause-done
returns-in-Ok-clause-done c = value_given _ _ _ _ _ _ _ _ _ c.in-Ok.ensures.gives c.in-Ok.ensures.rest c.set_value.ensures.done

pub returns-in-Err-clause-done : goal.returns-in-Err-clause-done
returns-in-Err-clause-done c = value_breaks _ _ _ _ _ _ _ _ c.in-Err.ensures.gives c.in-Err.ensures.rest c.halted.ensures.off c.halted.ensures.halted

pub returns-in-Ok-clause-stuck : goal.returns-in-Ok-clause-stuck
returns-in-Ok-clause-stuck c = rest_gets_stuck _ _ _ _ _ _ _ _ c.in-Ok.ensures.gives c.in-Ok.ensures.rest c.set_value.ensures.stuck

pub returns-in-Err-clause-stuck : goal.returns-in-Err-clause-stuck
returns-in-Err-clause-stuck c = value_stuck _ _ _ _ _ _ _ c.in-Err.ensures.gives c.in-Err.ensures.rest c.halted.ensures.stuck
