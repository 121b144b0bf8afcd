use Rattle.std.proofs.Common.{◌≡◌, drop}
use Rattle.flow_staterule.specs.StateRule.{first_stale}
use Rattle.flow_staterule.proofs.rule.first_stale.Given as goal

abbrev pub invariant-loop-number : goal.invariant-loop-number
invariant-loop-number l = first_stale l.number (drop l.number l.uses) ≡ first_stale 0 l.uses
