use Rattle.std.proofs.Common.{◌≡◌, ℕ, List, map, drop}
use Rattle.flow_code.specs.Resolved.Named.{at_name, first_from, or_else}
use Rattle.flow_code.specs.Coder.{name_of_class}
use Rattle.flow_code.proofs.coding.first_classes.Given as goal

abbrev pub invariant-loop-place : goal.invariant-loop-place
invariant-loop-place l = (x : List ℕ) → or_else (at_name l.places x) (first_from l.place (map name_of_class (drop l.place l.classes)) x) ≡ first_from 0 (map name_of_class l.classes) x
