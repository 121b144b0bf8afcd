use Rattle.flow_top.proofs.Deciding.{is_judged, unjudged}
use Rattle.flow_top.proofs.judge.sound_of.Goals as goal

pub returns-in-Ok : goal.returns-in-Ok
returns-in-Ok c = is_judged c.args.text.now c.in-Ok.sound c.in-Ok.ensures

pub returns-in-Err : goal.returns-in-Err
returns-in-Err c = unjudged c.args.text.now c.in-Err.fault c.refusal_outcome.result c.refusal_outcome.ensures c.in-Err.ensures
