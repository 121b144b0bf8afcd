use Rattle.std.proofs.Common.{◌-◌, ◌≤◌, length}
use Rattle.flow_classread.proofs.Straying.{Dotted}
use Rattle.flow_classread.specs.Strays.{NoStrays}
use Rattle.flow_classread.proofs.expr.first_stray.Given as goal

abbrev pub invariant-names : goal.invariant-names
invariant-names l = (l.fn.from ≤ l.at) × (l.at ≤ length l.tokens.spots.items) × Dotted l.tokens.spots.items l.fn.from l.at l.after_dot × NoStrays l.tokens.spots.items l.fn.from l.at

abbrev pub decreases-names : goal.decreases-names
decreases-names l = length l.tokens.spots.items - l.at
