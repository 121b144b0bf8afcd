use Rattle.std.proofs.Common.{◌≡◌, ◌++◌, map, drop}
use Rattle.flow_tree.specs.DeclView.{params_of}
use Rattle.flow_types.specs.Variables.{param_variable}
use Rattle.flow_types.specs.VariablesView.{variable_list}
use Rattle.flow_types.proofs.collect.add_params.Given as goal

abbrev pub invariant-loop-param : goal.invariant-loop-param
invariant-loop-param l =
    variable_list l.found.items ++ map param_variable (params_of (drop l.param-index l.params)) ≡ variable_list l.initial.found.items ++ map param_variable (params_of l.params)
