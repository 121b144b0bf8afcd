-- The variables of the code, seen as plain data, and what collecting them adds.
use Rattle.std.specs.Prelude.{◌≡◌, List, [], ◌++◌, map}
use Rattle.std.specs.declared.option.Option.{Option}
use Rattle.std.specs.declared.option.Option.TheVariants.{None, Some}
use Rattle.std.specs.declared.alloc.Global.{Global}
use Rattle.std.specs.declared.vec.Vec.{Vec}
use Rattle.flow_tree.specs.View.{type_of}
use Rattle.flow_tree.specs.Body.{Body, Branches}
use Rattle.flow_types.specs.declared.variable.Variable.{Variable}
use Rattle.flow_types.specs.Variables.{VariableTree, body_variables, branch_variables}

abbrev pub variable_of : Variable → VariableTree
variable_of v = record { name = v.name; kind = v.kind; ty = type_of v.ty }

abbrev pub variable_list : List Variable → List VariableTree
variable_list vs = map variable_of vs

-- the variables of a statement are added: with those of any body behind it they are what they were,
-- with those of the body that the statement and these make
abbrev pub AddsOf : (Body → Body) → List Variable → List Variable → Type 0
AddsOf f old new = (rest : Body) → variable_list new ++ body_variables rest ≡ variable_list old ++ body_variables (f rest)

-- the same of a branch
abbrev pub AddsBranch : (Branches → Branches) → List Variable → List Variable → Type 0
AddsBranch f old new = (rest : Branches) → variable_list new ++ branch_variables rest ≡ variable_list old ++ branch_variables (f rest)

-- of a body that may be absent
abbrev pub else_variables : Option Body → List VariableTree
else_variables None = []
else_variables (Some b) = body_variables b
