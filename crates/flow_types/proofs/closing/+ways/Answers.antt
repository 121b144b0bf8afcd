use Rattle.flow_types.specs.ClosingView.{ways_view}
use Rattle.flow_types.proofs.Steps.{ways_end, branch_step, branch_end}
use Rattle.flow_types.proofs.closing.+ways.Goals as goal

pub ways_of-returns : goal.ways_of-returns
ways_of-returns h c = ways_end c.args.body.now c.loop-stmt.stmt-index (ways_view c.loop-stmt.so_far) _ c.loop-stmt-test.false c.loop-stmt.invariant

pub branch_ways-loop-branch-preserved : goal.branch_ways-loop-branch-preserved
branch_ways-loop-branch-preserved h c =
    branch_step c.args.branches.now c.loop-branch.branch-index c.branch-item.result (ways_view c.loop-branch.so_far) (ways_view c.when_ways.result) (ways_view c.either-so_far.result) _
    c.loop-branch-test.true c.branch-item.is c.when_ways.ensures c.either-so_far.ensures c.loop-branch.invariant

pub branch_ways-returns : goal.branch_ways-returns
branch_ways-returns h c = branch_end c.args.branches.now c.loop-branch.branch-index (ways_view c.loop-branch.so_far) _ c.loop-branch-test.false c.loop-branch.invariant
