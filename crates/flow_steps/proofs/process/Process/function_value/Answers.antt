use Rattle.std.proofs.Common.{slice_get, subst}
use Rattle.flow_tree.specs.declared.limits.TheConstants.{CALL_DEPTH}
use Rattle.flow_eval.specs.Eval.{Setting, function_called}
use Rattle.flow_eval.specs.Functions.{run_function}
use Rattle.flow_eval.specs.View.{Gives}
use Rattle.flow_steps.specs.Acting.{args_of}
use Rattle.flow_steps.proofs.process.Process.function_value.Goals as goal

pub returns-clause-gives : goal.returns-clause-gives
returns-clause-gives c =
    subst (λ (s : Setting). Gives (function_called s (run_function s CALL_DEPTH) (slice_get s.functions c.args.function) (args_of c.args.args) c.args.self.now.left)
    c.run_function-value.result c.run_function-value.new.turns.left) c.setting-setting.ensures c.run_function-value.ensures
