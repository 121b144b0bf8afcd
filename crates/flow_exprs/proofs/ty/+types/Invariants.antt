use Rattle.std.proofs.Common.{◌+◌, ◌*◌, ◌-◌, length}
use Rattle.flow_exprs.proofs.ty.+types.Given as goal

abbrev pub decreases-read : goal.decreases-read
decreases-read l = 2 * (length l.spots.now - l.from) + 1

abbrev pub decreases-argument : goal.decreases-argument
decreases-argument l = 2 * (length l.spots.now - l.from)
