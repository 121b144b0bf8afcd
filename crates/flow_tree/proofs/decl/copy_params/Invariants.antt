use Rattle.std.proofs.Common.{◌≡◌, map, take}
use Rattle.flow_tree.specs.DeclView.{param_of}
use Rattle.flow_tree.proofs.decl.copy_params.Given as goal

abbrev pub invariant-loop-param : goal.invariant-loop-param
invariant-loop-param l = map param_of l.copies.items ≡ map param_of (take l.param-index l.params)
