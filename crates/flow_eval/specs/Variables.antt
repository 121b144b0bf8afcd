-- The variables of the code, seen as names with their values.
use Rattle.std.specs.Prelude.{ℕ, List}
use Rattle.flow_value.specs.Values.{ValueTree}
use Rattle.flow_value.specs.View.{value_of}
use Rattle.flow_eval.specs.declared.variables.Var.{Var}

abbrev pub var_of : Var → List ℕ × ValueTree
var_of v = (v.name, value_of v.value)
