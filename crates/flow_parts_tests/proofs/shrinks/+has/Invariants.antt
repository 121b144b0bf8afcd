use Rattle.std.proofs.Common.{length}
use Rattle.flow_parts_tests.proofs.shrinks.+has.Given as goal

abbrev pub decreases-has : goal.decreases-has
decreases-has l = length l.script.now
