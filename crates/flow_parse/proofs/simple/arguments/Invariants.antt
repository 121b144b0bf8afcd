use Rattle.std.proofs.Common.{◌-◌, ◌≤◌, ◌<◌, length}
use Rattle.flow_tree.specs.declared.limits.Limits.{Limits}
use Rattle.flow_parse.specs.Reading.{Any}
use Rattle.flow_parse.specs.Parts.{Args, MoreArgs}
use Rattle.flow_parse.proofs.Leaves.{Leaves}
use Rattle.flow_parse.proofs.Lists.{exprs_before}
use Rattle.flow_parse.proofs.simple.arguments.Given as goal

abbrev pub invariant-items : goal.invariant-items
invariant-items l = (l.fn.at < l.at) × (l.at ≤ length l.tokens.spots.items)
    × ((limits : Limits) → Leaves limits (Args l.fn.depth) Any (MoreArgs l.fn.depth) Any (exprs_before l.args.items) l.tokens.spots.items l.fn.at l.at)

abbrev pub decreases-items : goal.decreases-items
decreases-items l = length l.tokens.spots.items - l.at
