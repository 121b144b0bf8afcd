use Rattle.std.proofs.Common.{◌≡◌, map, take}
use Rattle.flow_tree.specs.View.{type_of}
use Rattle.flow_split.proofs.lower.copy_types.Given as goal

abbrev pub invariant-loop-ty : goal.invariant-loop-ty
invariant-loop-ty l = map type_of l.copies.items ≡ map type_of (take l.ty-index l.types)
