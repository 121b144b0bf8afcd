use Rattle.std.proofs.Common.{◌≡◌, ℕ, List, map, drop}
use Rattle.flow_code.specs.Resolved.Named.{at_name, first_from, or_else, name_of_function}
use Rattle.flow_code.proofs.expr.names.first_functions.Given as goal

abbrev pub invariant-loop-place : goal.invariant-loop-place
invariant-loop-place l = (x : List ℕ) → or_else (at_name l.places x) (first_from l.place (map name_of_function (drop l.place l.functions)) x) ≡ first_from 0 (map name_of_function l.functions) x
