use Rattle.std.proofs.Common.{◌+◌}
use Rattle.flow_code.specs.Resolved.View.{node_of}
use Rattle.flow_code.proofs.Resolved.Weights.{weight}
use Rattle.flow_code.proofs.expr.evaluate.+seen.Given as goal

abbrev pub decreases-seen : goal.decreases-seen
decreases-seen g l = weight (node_of l.expr.now)

abbrev pub decreases-seen_element : goal.decreases-seen_element
decreases-seen_element g l = weight (node_of l.of.now) + weight (node_of l.index.now) + 3

abbrev pub decreases-seen_field : goal.decreases-seen_field
decreases-seen_field g l = weight (node_of l.of.now) + 1
