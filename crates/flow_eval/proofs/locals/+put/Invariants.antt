use Rattle.std.proofs.Common.{◌+◌, ◌*◌, length}
use Rattle.flow_eval.proofs.locals.+put.Given as goal

abbrev pub decreases-put_in : goal.decreases-put_in
decreases-put_in l = 2 * length l.path.now

abbrev pub decreases-put_field : goal.decreases-put_field
decreases-put_field l = 2 * length l.rest.now + 1
