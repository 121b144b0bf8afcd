use Rattle.std.proofs.Common.{lt_of_not-le}
use Rattle.flow_steps.proofs.Amiss.{no_group_there, begins_later}
use Rattle.flow_steps.proofs.branches.branch_of.Goals as goal

pub returns-in_default-clause-stuck : goal.returns-in_default-clause-stuck
returns-in_default-clause-stuck c = no_group_there c.args.stand.now c.args.callback c.in_ok-number.number c.in_ok-number.ensures.done c.in_default.ensures

pub returns-in-None-clause-stuck : goal.returns-in-None-clause-stuck
returns-in-None-clause-stuck c =
    begins_later c.args.stand.now c.args.callback c.in_ok-number.number c.in-Some.group.now c.in_ok-number.ensures.done c.in-Some.ensures (lt_of_not-le c.in-None.ensures)
