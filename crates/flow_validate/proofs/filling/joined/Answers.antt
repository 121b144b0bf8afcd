use Rattle.std.proofs.lemmas.Nat.{or_lt}
use Rattle.flow_validate.proofs.filling.joined.Goals as goal

pub returns-else-all-before-clause-small : goal.returns-else-all-before-clause-small
returns-else-all-before-clause-small c = or_lt 64 c.args.before c.args.empty c.ranges.before.fits c.ranges.empty.fits
