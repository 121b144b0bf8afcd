use Rattle.std.proofs.Common.{sym}
use Rattle.flow_top.proofs.Deciding.{unchecked, is_checked, is_too_heavy}
use Rattle.flow_top.proofs.judge.check.Goals as goal

pub returns-in-Err : goal.returns-in-Err
returns-in-Err c = unchecked c.args.text.now c.in-Err.told c.in-Err.ensures

pub returns-in-None : goal.returns-in-None
returns-in-None c = is_checked c.args.text.now c.in-Ok.sound c.in-Ok.ensures (sym c.in-None.ensures)

pub returns : goal.returns
returns c = is_too_heavy c.args.text.now c.in-Ok.sound c.in-Some.at c.too_heavy.result c.too_heavy.ensures c.in-Ok.ensures (sym c.in-Some.ensures)
