use Rattle.std.proofs.Common.{rules}
use Rattle.std.specs.Prelude.{Ok}
use Rattle.flow_top.specs.Staging.{to_end, broken_off}
use Rattle.flow_top.proofs.stage.hear_all.Goals as goal

pub returns-in_default-clause-heard : goal.returns-in_default-clause-heard
returns-in_default-clause-heard g c = broken_off (search rules)

pub returns-in-Ok-clause-heard : goal.returns-in-Ok-clause-heard
returns-in-Ok-clause-heard g c = to_end c.in-Some.ending c.hear_events.new.lines (search rules) (search rules)
