use Rattle.std.proofs.Common.{arith}
use Rattle.flow_steps.proofs.Evaluating.{value_given, value_breaks, rest_gets_stuck, value_stuck}
use Rattle.flow_steps.proofs.Stepped.{one_argument}
use Rattle.flow_steps.proofs.Going.{one_stuck}
use Rattle.flow_steps.proofs.process.Process.method.Goals as goal

pub returns-in-Ok-clause-done : goal.returns-in-Ok-clause-done
returns-in-Ok-clause-done c =
    one_argument _ _ _ _ c.args.args.now c.arg-item.result _ _ _ (omega (arith, c.in-len1.len_at_least, c.in-len1.len_below)) c.arg-item.is
    (value_given _ _ _ _ _ _ _ _ _ c.in-Ok.ensures.gives c.in-Ok.ensures.rest c.method_with-in-Ok.ensures.done)

pub returns-in-Err-clause-done : goal.returns-in-Err-clause-done
returns-in-Err-clause-done c =
    one_argument _ _ _ _ c.args.args.now c.arg-item.result _ _ _ (omega (arith, c.in-len1.len_at_least, c.in-len1.len_below)) c.arg-item.is
    (value_breaks _ _ _ _ _ _ _ _ c.in-Err.ensures.gives c.in-Err.ensures.rest c.halted.ensures.off c.halted.ensures.halted)

pub returns-in-Ok-clause-stuck : goal.returns-in-Ok-clause-stuck
returns-in-Ok-clause-stuck c =
    one_stuck _ _ _ _ c.args.args.now c.arg-item.result _ _ (omega (arith, c.in-len1.len_at_least, c.in-len1.len_below)) c.arg-item.is
    (rest_gets_stuck _ _ _ _ _ _ _ _ c.in-Ok.ensures.gives c.in-Ok.ensures.rest c.method_with-in-Ok.ensures.stuck)

pub returns-in-Err-clause-stuck : goal.returns-in-Err-clause-stuck
returns-in-Err-clause-stuck c =
    one_stuck _ _ _ _ c.args.args.now c.arg-item.result _ _ (omega (arith, c.in-len1.len_at_least, c.in-len1.len_below)) c.arg-item.is
    (value_stuck _ _ _ _ _ _ _ c.in-Err.ensures.gives c.in-Err.ensures.rest c.halted.ensures.stuck)
