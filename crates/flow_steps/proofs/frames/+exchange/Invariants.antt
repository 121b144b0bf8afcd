use Rattle.std.proofs.Common.{◌+◌, ◌*◌, length}
use Rattle.flow_steps.proofs.frames.+exchange.Given as goal

abbrev pub decreases-exchange : goal.decreases-exchange
decreases-exchange l = 2 * length l.path.now

abbrev pub decreases-exchange_field : goal.decreases-exchange_field
decreases-exchange_field l = 2 * length l.rest.now + 1
