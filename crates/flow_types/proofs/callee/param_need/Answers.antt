use Rattle.std.proofs.Common.{ap, ◌∙◌, Some}
use Rattle.flow_rules.specs.Judged.{Exactly}
use Rattle.flow_types.proofs.Needed.{param_there, param_none}
use Rattle.flow_types.proofs.Levels.{get_at, get_none}
use Rattle.flow_types.proofs.callee.param_need.Goals as goal

pub returns-in-Some : goal.returns-in-Some
returns-in-Some c =
    let p = c.in-Some.param.now in
    ap (λ t. Some (Exactly t)) c.of.ensures
    ∙ param_there c.args.params.now c.args.number p (get_at c.args.params.now c.args.number p c.in-Some.ensures.lookup.3.0 c.in-Some.ensures.lookup.1)

pub returns-in-None : goal.returns-in-None
returns-in-None c = param_none c.args.params.now c.args.number (get_none c.args.params.now c.args.number c.in-None.ensures.lookup.3)
