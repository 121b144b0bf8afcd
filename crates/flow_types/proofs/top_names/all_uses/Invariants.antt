use Rattle.std.proofs.Common.{◌≡◌, ℕ, Bool, map, take}
use Rattle.flow_types.specs.Holding.{uses_hold}
use Rattle.flow_types.specs.HoldView.{row_holds}
use Rattle.flow_types.proofs.top_names.all_uses.Given as goal

abbrev pub invariant-loop-number : goal.invariant-loop-number
invariant-loop-number l = (g : ℕ → Bool) → map (uses_hold g) l.all.items ≡ map (row_holds l.meanings g) (take l.number l.meanings.entries)
