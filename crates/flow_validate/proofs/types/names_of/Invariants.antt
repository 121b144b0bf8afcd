use Rattle.std.proofs.Common.{◌≡◌, length}
use Rattle.flow_validate.specs.PlaceNames.{AreNames}
use Rattle.flow_validate.proofs.types.names_of.Given as goal

abbrev pub invariant-loop-number : goal.invariant-loop-number
invariant-loop-number l = (length l.names.items ≡ l.number) × AreNames l.are_locals l.names.items
