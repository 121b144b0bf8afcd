use Rattle.std.proofs.Common.{◌+◌, ◌*◌}
use Rattle.flow_hint.proofs.seek.Seeker.+seek.Given as goal

-- nodes, then lists and parts, then what joins them
abbrev pub decreases-stmt : goal.decreases-stmt
decreases-stmt l = 8 * goal.size-stmt l

abbrev pub decreases-body : goal.decreases-body
decreases-body l = 8 * goal.size-body l + 1

abbrev pub decreases-part : goal.decreases-part
decreases-part l = 8 * goal.size-part l + 1

abbrev pub decreases-branches : goal.decreases-branches
decreases-branches l = 8 * goal.size-branches l + 1

abbrev pub decreases-scoped : goal.decreases-scoped
decreases-scoped l = 8 * goal.size-scoped l + 2

abbrev pub decreases-rounds : goal.decreases-rounds
decreases-rounds l = 8 * goal.size-rounds l + 2

abbrev pub decreases-handler : goal.decreases-handler
decreases-handler l = 8 * goal.size-handler l + 2

abbrev pub decreases-otherwise : goal.decreases-otherwise
decreases-otherwise l = 8 * goal.size-otherwise l + 3
