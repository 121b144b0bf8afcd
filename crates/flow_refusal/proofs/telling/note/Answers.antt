use Rattle.flow_refusal.proofs.Noting.{script_noted}
use Rattle.flow_refusal.proofs.telling.note.Goals as goal

pub returns-then-is_line-3 : goal.returns-then-is_line-3
returns-then-is_line-3 c = script_noted (c.is_line-3.ensures c.if-is_line-3.true) c.in_ok-out-3.ensures
