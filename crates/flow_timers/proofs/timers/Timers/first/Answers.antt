use Rattle.std.proofs.Common.{◌∙◌, ap}
use Rattle.flow_timers.specs.Pending.{next_event}
use Rattle.flow_timers.proofs.Placing.{first_is}
use Rattle.flow_timers.proofs.timers.Timers.first.Goals as goal

pub returns : goal.returns
returns g c =
    first_is c.self.inside.moments.entries c.in_ok-time.time.now c.in_ok-time.moment.now c.in_ok-number.number c.in_ok-time.ensures.first c.in_ok-number.ensures
    ∙ ap (λ q. next_event q.pending) c.self.view_is
