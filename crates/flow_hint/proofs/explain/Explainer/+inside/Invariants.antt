use Rattle.std.proofs.Common.{◌+◌, ◌*◌}
use Rattle.flow_hint.proofs.explain.Explainer.+inside.Given as goal

-- nodes, then what joins them
abbrev pub decreases-inside : goal.decreases-inside
decreases-inside l = 4 * goal.size-inside l

abbrev pub decreases-part : goal.decreases-part
decreases-part l = 4 * goal.size-part l + 1

abbrev pub decreases-args : goal.decreases-args
decreases-args l = 4 * goal.size-args l + 2
