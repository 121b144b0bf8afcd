use Rattle.std.proofs.Common.{◌≡◌, ◌-◌, ◌<◌, ◌≤◌, true, false}
use Rattle.flow_tree.specs.StmtView.{body_of}
use Rattle.flow_tree.specs.DeclView.{params_of}
use Rattle.flow_staterule.specs.StateRule.{is_lost_with}
use Rattle.flow_staterule.proofs.rule.first_wait.Given as goal

-- it is stale with the first `high` waits, and not with the first `low`
abbrev pub invariant-loop-high : goal.invariant-loop-high
invariant-loop-high l = let lost = is_lost_with (params_of l.params) (body_of l.body) l.number in
    (l.low < l.high) × (l.high ≤ l.fn.waits) × (lost l.high ≡ true) × (0 < l.low → lost l.low ≡ false)

abbrev pub decreases-loop-high : goal.decreases-loop-high
decreases-loop-high l = l.high - l.low
