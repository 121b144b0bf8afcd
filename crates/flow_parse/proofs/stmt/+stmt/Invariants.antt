use Rattle.std.proofs.Common.{◌+◌, ◌*◌, ◌-◌, ◌≤◌, ◌<◌, length}
use Rattle.flow_parse.specs.Reading.{Any}
use Rattle.flow_parse.specs.Parts.{Closing, AllWhens, WhensPart}
use Rattle.flow_parse.specs.Views.{counts_of}
use Rattle.flow_parse.proofs.Leaves.{Leaves}
use Rattle.flow_parse.proofs.StmtLoops.{closing_before, whens_before}
use Rattle.flow_parse.proofs.stmt.+stmt.Given as goal

abbrev pub decreases-body : goal.decreases-body
decreases-body l = 4 * (length l.tokens.now.spots.items - l.at) + 2

abbrev pub decreases-block : goal.decreases-block
decreases-block l = 4 * (length l.tokens.now.spots.items - l.at) + 1

abbrev pub decreases-stmt : goal.decreases-stmt
decreases-stmt l = 4 * (length l.tokens.now.spots.items - l.at) + 2

abbrev pub decreases-stmts : goal.decreases-stmts
decreases-stmts l = 4 * (length l.tokens.now.spots.items - l.at) + 3

abbrev pub decreases-plain : goal.decreases-plain
decreases-plain l = 4 * (length l.tokens.now.spots.items - l.at) + 1

abbrev pub decreases-if_stmt : goal.decreases-if_stmt
decreases-if_stmt l = 4 * (length l.tokens.now.spots.items - l.at) + 0

abbrev pub decreases-while_stmt : goal.decreases-while_stmt
decreases-while_stmt l = 4 * (length l.tokens.now.spots.items - l.at) + 0

abbrev pub decreases-for_stmt : goal.decreases-for_stmt
decreases-for_stmt l = 4 * (length l.tokens.now.spots.items - l.at) + 0

abbrev pub decreases-loop_stmt : goal.decreases-loop_stmt
decreases-loop_stmt l = 4 * (length l.tokens.now.spots.items - l.at) + 0

abbrev pub decreases-try_stmt : goal.decreases-try_stmt
decreases-try_stmt l = 4 * (length l.tokens.now.spots.items - l.at) + 0

abbrev pub decreases-choose : goal.decreases-choose
decreases-choose l = 4 * (length l.tokens.now.spots.items - l.at) + 0

abbrev pub decreases-when : goal.decreases-when
decreases-when l = 4 * (length l.tokens.now.spots.items - l.at) + 0

abbrev pub decreases-whens : goal.decreases-whens
decreases-whens l = 4 * (length l.tokens.now.spots.items - l.at) + 1

abbrev pub invariant-stmts-items : goal.invariant-stmts-items
invariant-stmts-items l = (l.fn.at ≤ l.at) × (l.at ≤ length l.tokens.spots.items)
    × Leaves l.fn.around.limits (Closing l.fn.around.routine l.fn.around.depth (counts_of l.fn.around.counts)) Any (Closing l.fn.around.routine l.fn.around.depth (counts_of l.counts)) Any
    (closing_before l.body.items) l.tokens.spots.items l.fn.at l.at

abbrev pub decreases-stmts-items : goal.decreases-stmts-items
decreases-stmts-items l = length l.tokens.spots.items - l.at

abbrev pub invariant-whens-branches : goal.invariant-whens-branches
invariant-whens-branches l = (l.fn.at < l.at) × (l.at ≤ length l.tokens.spots.items) × (l.before ≤ l.fn.around.limits.branches)
    × Leaves l.fn.around.limits (AllWhens l.fn.around.routine l.fn.around.depth (counts_of l.fn.around.counts)) Any (WhensPart l.fn.around.routine l.fn.around.depth (l.before + 1) (counts_of l.counts))
    Any (whens_before l.branches.items) l.tokens.spots.items l.fn.at l.at

abbrev pub decreases-whens-branches : goal.decreases-whens-branches
decreases-whens-branches l = length l.tokens.spots.items - l.at
