use Rattle.std.proofs.Common.{◌≡◌, ℕ, Bool, ◌||◌, map, drop}
use Rattle.flow_tree.specs.DeclView.{params_of}
use Rattle.flow_types.specs.Holding.{uses_hold}
use Rattle.flow_rules.specs.Known.{field_row, fields_hold}
use Rattle.flow_types.specs.MapView.{numbered}
use Rattle.flow_types.proofs.top_names.fields_uses.Given as goal

abbrev pub invariant-loop-field : goal.invariant-loop-field
invariant-loop-field l =
    (g : ℕ → Bool) → (uses_hold g l.uses || fields_hold (numbered l.meanings g) (map field_row (params_of (drop l.field-index l.fields))))
    ≡ fields_hold (numbered l.meanings g) (map field_row (params_of l.fields))
