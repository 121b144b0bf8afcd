use Rattle.std.proofs.Common.{◌≡◌, ◌≤◌, drop}
use Rattle.flow_tree.specs.DeclView.{params_of}
use Rattle.flow_tree.specs.declared.limits.TheConstants.{LEAF_FIELDS}
use Rattle.flow_rules.specs.Rules.{beside, fields_size}
use Rattle.flow_types.specs.SizeView.{size_of, sizes_of}
use Rattle.flow_types.proofs.size.fields_size.Given as goal

abbrev pub invariant-loop-field : goal.invariant-loop-field
invariant-loop-field l =
    (l.size.leaves ≤ LEAF_FIELDS)
    × (beside (size_of l.size) (fields_size (sizes_of l.sizes) (params_of (drop l.field-index l.fields))) ≡ fields_size (sizes_of l.sizes) (params_of l.fields))
