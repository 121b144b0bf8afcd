use Rattle.std.proofs.Common.{◌≡◌, ◌++◌, length, map, take}
use Rattle.flow_tree.specs.View.{type_of}
use Rattle.flow_types.specs.MapView.{vars_of}
use Rattle.flow_valid.specs.Validity.{local_rows}
use Rattle.flow_validate.proofs.types.add_locals.Given as goal

abbrev pub invariant-loop-ty : goal.invariant-loop-ty
invariant-loop-ty l = vars_of l.vars ≡ vars_of l.fn.vars ++ local_rows 0 (map type_of (take (length l.yielded) l.locals))
