use Rattle.flow_eval.proofs.Elements.{size_given}
use Rattle.flow_eval.proofs.predefined.size.Goals as goal

pub returns-in-Ok : goal.returns-in-Ok
returns-in-Ok c = size_given c.args.items.now c.in-Ok.count c.in-Ok.ensures.0 c.in-Ok.ensures.1
