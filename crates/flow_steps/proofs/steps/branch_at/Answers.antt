use Rattle.std.proofs.Common.{rules}
use Rattle.flow_steps.specs.StuckTasks.{no_group_at, not_in_group}
use Rattle.flow_steps.proofs.steps.branch_at.Goals as goal

pub returns-in_default-clause-stuck : goal.returns-in_default-clause-stuck
returns-in_default-clause-stuck c =
    no_group_at c.in_ok-number.number c.in_ok-number.ensures.done (search rules)

pub returns-in-None-clause-stuck : goal.returns-in-None-clause-stuck
returns-in-None-clause-stuck c =
    not_in_group c.in_ok-number.number c.in-Some.group.now c.in_ok-number.ensures.done (search rules) (search rules)
