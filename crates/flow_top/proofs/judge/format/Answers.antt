use Rattle.flow_top.proofs.Deciding.{is_formatted, unformatted}
use Rattle.flow_top.proofs.judge.format.Goals as goal

pub returns-in-Ok : goal.returns-in-Ok
returns-in-Ok c = is_formatted c.args.text.now c.in-Ok.program c.in-Ok.ensures

pub returns-in-Err : goal.returns-in-Err
returns-in-Err c = unformatted c.args.text.now c.in-Err.fault c.refusal_outcome.result c.refusal_outcome.ensures c.in-Err.ensures
