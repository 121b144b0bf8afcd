use Rattle.std.proofs.Common.{◌≡◌, drop, map}
use Rattle.std.specs.List.{list_all}
use Rattle.flow_tree.specs.Decls.{SlotTree}
use Rattle.flow_tree.specs.DeclView.{slot_of}
use Rattle.flow_rules.specs.Known.{type_known}
use Rattle.flow_types.specs.MapView.{known_by}
use Rattle.flow_validate.proofs.heads.slots_known.Given as goal

abbrev pub invariant-loop-slot : goal.invariant-loop-slot
invariant-loop-slot l =
    list_all (λ (s : SlotTree). type_known (known_by l.names) s.ty) (map slot_of (drop l.slot-index l.slots))
    ≡ list_all (λ (s : SlotTree). type_known (known_by l.names) s.ty) (map slot_of l.slots)
