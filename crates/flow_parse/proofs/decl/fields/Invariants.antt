use Rattle.std.proofs.Common.{◌+◌, ◌-◌, ◌≤◌, ◌<◌, length}
use Rattle.flow_parse.specs.Reading.{Any}
use Rattle.flow_parse.specs.Parts.{AllFields, FieldsPart}
use Rattle.flow_parse.proofs.Leaves.{Leaves}
use Rattle.flow_parse.proofs.DeclLoops.{params_before}
use Rattle.flow_parse.proofs.decl.fields.Given as goal

abbrev pub invariant-items : goal.invariant-items
invariant-items l = (l.fn.at < l.at) × (l.at ≤ length l.tokens.spots.items) × (l.before ≤ l.fn.limits.variables)
    × Leaves l.fn.limits AllFields Any (FieldsPart (l.before + 1)) Any (params_before l.fields.items) l.tokens.spots.items l.fn.at l.at

abbrev pub decreases-items : goal.decreases-items
decreases-items l = length l.tokens.spots.items - l.at
