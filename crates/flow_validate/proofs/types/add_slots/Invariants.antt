use Rattle.std.proofs.Common.{◌≡◌, length, map, take}
use Rattle.flow_tree.specs.DeclView.{slot_of}
use Rattle.flow_types.specs.MapView.{vars_of}
use Rattle.flow_valid.specs.Validity.{slot_rows}
use Rattle.flow_validate.proofs.types.add_slots.Given as goal

abbrev pub invariant-loop-slot : goal.invariant-loop-slot
invariant-loop-slot l = vars_of l.vars ≡ slot_rows 0 (map slot_of (take (length l.yielded) l.slots))
