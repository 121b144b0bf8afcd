use Rattle.std.proofs.Common.{rules}
use Rattle.flow_top.specs.Steps.{is_none, no_room_for_it}
use Rattle.flow_top.proofs.judge.world_outcome.Goals as goal

pub returns-in-OutOfMemory : goal.returns-in-OutOfMemory
returns-in-OutOfMemory c = λ text reads. no_room_for_it

pub returns-in-TooLarge : goal.returns-in-TooLarge
returns-in-TooLarge c = λ text reads. is_none c.args.fault reads (λ e. grind (rules, c.in-TooLarge.is, e))
