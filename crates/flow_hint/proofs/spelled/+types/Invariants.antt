use Rattle.std.proofs.Common.{◌+◌, ◌*◌}
use Rattle.flow_hint.proofs.spelled.+types.Given as goal

abbrev pub decreases-put_type : goal.decreases-put_type
decreases-put_type l = 2 * goal.size-put_type l

abbrev pub decreases-put_wrapped : goal.decreases-put_wrapped
decreases-put_wrapped l = 2 * goal.size-put_wrapped l + 1
