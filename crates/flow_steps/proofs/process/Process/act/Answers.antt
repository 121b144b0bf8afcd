use Rattle.flow_steps.proofs.Evaluating.{value_given, values_break, rest_strays, values_stray}
use Rattle.flow_steps.proofs.process.Process.act.Goals as goal

pub returns-in-Ok-clause-done : goal.returns-in-Ok-clause-done
returns-in-Ok-clause-done c = value_given _ _ _ _ _ _ _ _ _ c.in-Ok.ensures.gives c.in-Ok.ensures.rest c.act_with.ensures.done

pub returns-in-Err-clause-done : goal.returns-in-Err-clause-done
returns-in-Err-clause-done c = values_break _ _ _ _ _ _ _ _ c.in-Err.ensures.gives c.in-Err.ensures.rest c.halted.ensures.off c.halted.ensures.halted

pub returns-in-Ok-clause-astray : goal.returns-in-Ok-clause-astray
returns-in-Ok-clause-astray c = rest_strays _ _ _ _ _ _ _ _ c.in-Ok.ensures.gives c.in-Ok.ensures.rest c.act_with.ensures.astray

pub returns-in-Err-clause-astray : goal.returns-in-Err-clause-astray
returns-in-Err-clause-astray c = values_stray _ _ _ _ _ _ _ c.in-Err.ensures.gives c.in-Err.ensures.rest c.halted.ensures.astray
