use Rattle.flow_front.proofs.Judging.{unread_verdict}
use Rattle.flow_front.proofs.verdict.front.Goals as goal

pub returns-in-Ok : goal.returns-in-Ok
returns-in-Ok c = c.judge.ensures c.args.bytes.now c.in-Ok.ensures

pub returns-in-Err : goal.returns-in-Err
returns-in-Err c = unread_verdict c.args.bytes.now c.in-Err.fault c.in-Err.ensures
