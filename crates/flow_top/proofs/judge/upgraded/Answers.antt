use Rattle.flow_top.proofs.Deciding.{is_upgraded, not_upgraded}
use Rattle.flow_top.proofs.judge.upgraded.Goals as goal

pub returns-in-Ok : goal.returns-in-Ok
returns-in-Ok c = is_upgraded c.args.text.now c.in-Ok.classes c.in-Ok.ensures

pub returns-in-Err : goal.returns-in-Err
returns-in-Err c = not_upgraded c.args.text.now c.in-Err.fault c.class_outcome.result c.class_outcome.ensures c.in-Err.ensures
