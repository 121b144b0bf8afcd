use Rattle.std.proofs.Common.{◌≡◌, ◌++◌, map, drop}
use Rattle.std.specs.List.{flat_map}
use Rattle.flow_debug.specs.ViewText.{variable_line}
use Rattle.flow_debug.specs.Views.{variable_of}
use Rattle.flow_debug.proofs.print.put_variables.Given as goal

abbrev pub invariant-loop-variable : goal.invariant-loop-variable
invariant-loop-variable l =
    l.out.items ++ flat_map (variable_line l.view.process.0 l.view.actor.0) (map variable_of (drop l.variable-index l.view.vars.items))
    ≡ l.initial.out.items ++ flat_map (variable_line l.view.process.0 l.view.actor.0) (map variable_of l.view.vars.items)
