use Rattle.std.proofs.Common.{◌≡◌, map, take}
use Rattle.flow_tree.specs.DeclView.{param_of, slot_of}
use Rattle.flow_valid.specs.Heads.{slot_param}
use Rattle.flow_validate.proofs.decls.slot_params.Given as goal

abbrev pub invariant-loop-slot : goal.invariant-loop-slot
invariant-loop-slot l = map param_of l.params.items ≡ map slot_param (map slot_of (take l.slot-index l.slots))
