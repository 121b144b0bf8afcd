use Rattle.std.proofs.Common.{◌≡◌, ℕ, List, map, drop}
use Rattle.flow_code.specs.Resolved.Named.{at_name, first_from, or_else, name_of_record}
use Rattle.flow_code.proofs.expr.names.first_records.Given as goal

abbrev pub invariant-loop-place : goal.invariant-loop-place
invariant-loop-place l = (x : List ℕ) → or_else (at_name l.places x) (first_from l.place (map name_of_record (drop l.place l.records)) x) ≡ first_from 0 (map name_of_record l.records) x
