use Rattle.flow_top.proofs.Silence.{deaf_name}
use Rattle.flow_top.proofs.deaf.DeafAudience.name.Goals as goal

pub returns-clause-name : goal.returns-clause-name
returns-clause-name c = (deaf_name c.args.self.now c.args._k c.in-One.is c.requires).0

pub returns-clause-form : goal.returns-clause-form
returns-clause-form c = (deaf_name c.args.self.now c.args._k c.in-One.is c.requires).1
