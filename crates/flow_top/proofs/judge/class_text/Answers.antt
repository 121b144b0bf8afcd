use Rattle.flow_top.proofs.Deciding.{classes_run, classes_refused}
use Rattle.flow_top.proofs.judge.class_text.Goals as goal

pub returns-in-Ok : goal.returns-in-Ok
returns-in-Ok c = classes_run c.args.text.now c.in-Ok.classes c.none.result c.in-Ok.ensures

pub returns-in-Err : goal.returns-in-Err
returns-in-Err c = classes_refused c.args.text.now c.in-Err.fault c.class_outcome.result c.class_outcome.ensures c.in-Err.ensures
