use Rattle.flow_top.proofs.Deciding.{is_listed, unlisted}
use Rattle.flow_top.proofs.judge.compiled.Goals as goal

pub returns-in-Ok : goal.returns-in-Ok
returns-in-Ok c = is_listed c.args.text.now _ c.in-Ok.ensures

pub returns : goal.returns
returns c = unlisted c.args.text.now c.in-Err.told c.in-Err.ensures
