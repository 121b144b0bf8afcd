use Rattle.std.proofs.Common.{◌≡◌, drop, map}
use Rattle.std.specs.List.{list_all}
use Rattle.flow_tree.specs.View.{type_of}
use Rattle.flow_rules.specs.Known.{type_known}
use Rattle.flow_types.specs.MapView.{known_by}
use Rattle.flow_validate.proofs.heads.types_known.Given as goal

abbrev pub invariant-loop-ty : goal.invariant-loop-ty
invariant-loop-ty l =
    list_all (type_known (known_by l.names)) (map type_of (drop l.ty-index l.types)) ≡ list_all (type_known (known_by l.names)) (map type_of l.types)
