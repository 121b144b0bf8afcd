use Rattle.std.proofs.Common.{ap, ◌∙◌}
use Rattle.flow_timers.specs.Pending.{with_event}
use Rattle.flow_world.specs.declared.outside.What.TheVariants.{Boots}
use Rattle.flow_world.proofs.Beginnings.{boots_more}
use Rattle.flow_world.proofs.starting.first_boots.Goals as goal

pub loop-number-preserved : goal.loop-number-preserved
loop-number-preserved c =
    let n = c.loop-number.number in
    c.in_ok-add.ensures.added ∙ ap (λ q. with_event q 0 (Boots (record { 0 = n }))) c.loop-number.invariant ∙ boots_more n
