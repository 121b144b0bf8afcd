use Rattle.std.proofs.Common.{◌+◌, ◌*◌}
use Rattle.flow_hint.proofs.spans.+spans.Given as goal

abbrev pub decreases-expr_tokens : goal.decreases-expr_tokens
decreases-expr_tokens l = 2 * goal.size-expr_tokens l

abbrev pub decreases-args_tokens : goal.decreases-args_tokens
decreases-args_tokens l = 2 * goal.size-args_tokens l + 1
