use Rattle.flow_top.proofs.Silence.{stays_deaf, says_nothing}
use Rattle.flow_top.proofs.deaf.DeafAudience.hear.Goals as goal

pub returns-clause-ears : goal.returns-clause-ears
returns-clause-ears c = stays_deaf c.args.self.now _

pub returns-clause-stop : goal.returns-clause-stop
returns-clause-stop c = says_nothing c.args.self.now _
