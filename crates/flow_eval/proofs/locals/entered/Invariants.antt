use Rattle.std.proofs.Common.{◌≡◌, map, drop}
use Rattle.std.specs.Vec.Iter.{into_iter_items}
use Rattle.flow_tree.specs.DeclView.{param_of}
use Rattle.flow_value.specs.View.{value_of}
use Rattle.flow_eval.specs.Functions.{entered}
use Rattle.flow_eval.specs.Variables.{var_of}
use Rattle.flow_eval.proofs.Bodies.{before}
use Rattle.flow_eval.proofs.locals.entered.Given as goal

abbrev pub invariant-loop-param : goal.invariant-loop-param
invariant-loop-param l =
    entered (map param_of l.params) (map value_of l.fn.args.items)
    ≡ before (map var_of l.vars.items) (entered (map param_of (drop l.param-index l.params)) (map value_of (into_iter_items l.values)))
