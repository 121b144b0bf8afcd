use Rattle.std.proofs.Common.{◌≡◌, arith, length}
use Rattle.flow_timers.proofs.Numbering.{all_from}
use Rattle.flow_timers.proofs.moment.Moment.place_from.Goals as goal

pub returns-then-number-first-clause-place : goal.returns-then-number-first-clause-place
returns-then-number-first-clause-place g c =
    let high = all_from c.args.number c.self.inside.events.items c.in-Some.first.now c.self.invariant c.in-Some.ensures.lookup c.if-number-first.true in
    rw (← c.self.view_is) ((λ k d from below. absurd (omega (arith, below))), high)
