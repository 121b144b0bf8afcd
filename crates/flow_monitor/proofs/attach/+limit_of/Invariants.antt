use Rattle.std.proofs.Common.{length}
use Rattle.flow_monitor.proofs.attach.+limit_of.Given as goal

abbrev pub decreases-limit_of : goal.decreases-limit_of
decreases-limit_of l = length l.wanted.now
