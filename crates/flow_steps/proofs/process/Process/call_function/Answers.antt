use Rattle.flow_steps.proofs.Evaluating.{function_done, value_breaks, rest_gets_stuck, value_stuck}
use Rattle.flow_steps.proofs.process.Process.call_function.Goals as goal

pub returns-in-Ok-clause-done : goal.returns-in-Ok-clause-done
returns-in-Ok-clause-done c =
    function_done c.args.stand.now c.args.self.now c.function_value.new.self c.function_value.new.self _ _ _ c.in-Ok.ensures.gives c.in-Ok.ensures.rest c.next_after.ensures.done

pub returns-in-Err-clause-done : goal.returns-in-Err-clause-done
returns-in-Err-clause-done c = value_breaks _ _ _ _ _ _ _ _ c.in-Err.ensures.gives c.in-Err.ensures.rest c.halted.ensures.off c.halted.ensures.halted

pub returns-in-Ok-clause-stuck : goal.returns-in-Ok-clause-stuck
returns-in-Ok-clause-stuck c = rest_gets_stuck _ _ _ _ c.function_value.new.self _ _ _ c.in-Ok.ensures.gives c.in-Ok.ensures.rest c.next_after.ensures.stuck

pub returns-in-Err-clause-stuck : goal.returns-in-Err-clause-stuck
returns-in-Err-clause-stuck c = value_stuck _ _ _ _ _ _ _ c.in-Err.ensures.gives c.in-Err.ensures.rest c.halted.ensures.stuck
