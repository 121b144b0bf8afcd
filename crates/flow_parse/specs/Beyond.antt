-- Which limit one more statement breaks.
use Rattle.std.specs.Prelude.{◌≡◌, ℕ, ◌≤◌, ◌<◌, ◌⊎◌}
use Rattle.flow_base.specs.declared.place.Place.{Place}
use Rattle.flow_tree.specs.declared.fault.Rule.TheVariants.{L}
use Rattle.flow_tree.specs.declared.fault.SourceFault.{SourceFault}
use Rattle.flow_tree.specs.declared.fault.SourceFault.TheVariants.{Refused}
use Rattle.flow_tree.specs.GrammarStmt.{Counts}
use Rattle.flow_tree.specs.declared.limits.Limits.{Limits}
use Rattle.flow_tree.specs.declared.limits.TheConstants.{DEPTH}

-- behind so many statements there can be none more
abbrev pub TooMany : Limits → Counts → Place → SourceFault → Type 0
TooMany limits c at e = (limits.statements ≤ c.statements) × (e ≡ Refused (L 4) at)

-- there can be one more, but not at this depth
abbrev pub TooDeep : Limits → Counts → ℕ → Place → SourceFault → Type 0
TooDeep limits c d at e = (c.statements < limits.statements) × (DEPTH < d) × (e ≡ Refused (L 5) at)

abbrev pub Beyond : Limits → Counts → ℕ → Place → SourceFault → Type 0
Beyond limits c d at e = TooMany limits c at e ⊎ TooDeep limits c d at e
