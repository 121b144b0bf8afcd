use Rattle.std.proofs.Common.{◌≡◌, map, reverse, take}
use Rattle.flow_tree.specs.DeclView.{param_of}
use Rattle.flow_staterule.specs.Uses.{parameter}
use Rattle.flow_staterule.specs.View.{in_force}
use Rattle.flow_staterule.proofs.uses.declared_params.Given as goal

abbrev pub invariant-loop-param : goal.invariant-loop-param
invariant-loop-param l = in_force l.variables ≡ reverse (map (λ p. parameter (param_of p)) (take l.param-index l.params))
