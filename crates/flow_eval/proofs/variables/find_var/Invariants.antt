use Rattle.std.proofs.Common.{◌≡◌, map, drop}
use Rattle.flow_ast.specs.TypingNames.{named}
use Rattle.flow_eval.specs.Variables.{var_of}
use Rattle.flow_eval.proofs.variables.find_var.Given as goal

abbrev pub invariant-loop-var : goal.invariant-loop-var
invariant-loop-var l = named (map var_of l.vars) l.name ≡ named (map var_of (drop l.var-index l.vars)) l.name
