use Rattle.std.proofs.Common.{◌≤◌, max, arith}
use Rattle.flow_numbered.proofs.RowLemmas.{rising_in, rise_to}
use Rattle.flow_numbered.proofs.numbered.Numbered.skip_to.Goals as goal

pub invariant_of-self : goal.invariant_of-self
invariant_of-self g c = rise_to 0 _ _ _ (grind arith) c.self.invariant

pub returns-clause-rising : goal.returns-clause-rising
returns-clause-rising g c = rising_in 0 _ _ (rise_to 0 _ _ _ (grind arith) c.self.invariant)
