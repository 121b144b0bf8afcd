use Rattle.std.proofs.Common.{◌≡◌, ◌-◌, ◌∙◌, ap, sym, arith, length, get_or}
use Rattle.flow_timers.proofs.Numbering.{all_up_to}
use Rattle.flow_timers.proofs.moment.Moment.place_after.Goals as goal

pub returns-then-last-number-clause-place : goal.returns-then-last-number-clause-place
returns-then-last-number-clause-place g c =
    let es = c.self.inside.events.items in
    let x = c.in-Some.last.now in
    let size : c.len.result ≡ length es = omega (arith, c.len.ensures, c.self.inside.events.ok) in
    let is = c.in-Some.ensures.lookup ∙ ap (λ n. get_or es (n - 1) x) (sym c.len.ensures ∙ size) in
    let low = all_up_to c.args.number es x c.self.invariant is c.if-last-number.true in
    rw (← c.self.view_is) ((λ k d from below. low k d from (omega (arith, below, size))), (λ k d from below. absurd (omega (arith, from, below, size))))
