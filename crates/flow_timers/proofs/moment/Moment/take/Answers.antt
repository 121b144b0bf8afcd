use Rattle.std.proofs.Common.{◌≡◌, ◌<◌, ◌∙◌, ap, sym, subst, arith, length, get_or, zero-le, Some}
use Rattle.std.specs.List.{remove}
use Rattle.std.specs.List.Sorted.{IsNonDecreasingBy}
use Rattle.flow_timers.proofs.Numbering.{any_default, nothing_there, nothing_at, there, rising_without}
use Rattle.flow_timers.proofs.moment.Moment.take.Goals as goal

pub returns-then-place-len-clause-what : goal.returns-then-place-len-clause-what
returns-then-place-len-clause-what g c =
    let at = c.place_from-place.ensures in
    let size : length c.args.self.now ≡ c.place_from-place.result = omega (arith, c.if-place-len.true, c.len.ensures, ap length c.self.view_is, c.self.inside.events.ok) in
    (nothing_there c.args.number c.args.self.now
    (λ k d lo hi e. let below = at.place.0 k d zero-le (omega (arith, size, hi)) in omega (arith, below, e))).0

pub returns-then-place-len-clause-left : goal.returns-then-place-len-clause-left
returns-then-place-len-clause-left g c =
    let at = c.place_from-place.ensures in
    let size : length c.args.self.now ≡ c.place_from-place.result = omega (arith, c.if-place-len.true, c.len.ensures, ap length c.self.view_is, c.self.inside.events.ok) in
    (nothing_there c.args.number c.args.self.now
    (λ k d lo hi e. let below = at.place.0 k d zero-le (omega (arith, size, hi)) in omega (arith, below, e))).1

pub returns-then-index-number-clause-what : goal.returns-then-index-number-clause-what
returns-then-index-number-clause-what g c =
    let at = c.place_from-place.ensures in
    let is = c.self.view_is in
    let short : c.place_from-place.result < length c.args.self.now = omega (arith, c.if-place-len.false, at.bound, c.len.ensures, ap length is, c.self.inside.events.ok) in
    (nothing_at c.args.number c.args.self.now c.place_from-place.result c.index.result.now short
    (subst (λ xs. IsNonDecreasingBy (λ e. e.number) xs) is c.self.invariant) at.place.0 at.place.1
    (c.index.ensures ∙ ap (λ xs. get_or xs c.place_from-place.result c.index.result.now) is)
    (λ e. omega (arith, c.if-index-number.true, e))).0

pub returns-then-index-number-clause-left : goal.returns-then-index-number-clause-left
returns-then-index-number-clause-left g c =
    let at = c.place_from-place.ensures in
    let is = c.self.view_is in
    let short : c.place_from-place.result < length c.args.self.now = omega (arith, c.if-place-len.false, at.bound, c.len.ensures, ap length is, c.self.inside.events.ok) in
    (nothing_at c.args.number c.args.self.now c.place_from-place.result c.index.result.now short
    (subst (λ xs. IsNonDecreasingBy (λ e. e.number) xs) is c.self.invariant) at.place.0 at.place.1
    (c.index.ensures ∙ ap (λ xs. get_or xs c.place_from-place.result c.index.result.now) is)
    (λ e. omega (arith, c.if-index-number.true, e))).1

pub invariant_of-self-2 : goal.invariant_of-self-2
invariant_of-self-2 g c =
    let at = c.place_from-place.ensures in
    let short : c.place_from-place.result < length c.self.inside.events.items = omega (arith, c.if-place-len.false, at.bound, c.len.ensures, ap length c.self.view_is, c.self.inside.events.ok) in
    rw c.in_ok-event.ensures.items (rising_without c.self.inside.events.items c.place_from-place.result short c.self.invariant)

pub returns-clause-what : goal.returns-clause-what
returns-clause-what g c =
    let at = c.place_from-place.ensures in
    let is = c.self.view_is in
    let x = c.in_ok-event.event in
    let short : c.place_from-place.result < length c.args.self.now = omega (arith, c.if-place-len.false, at.bound, c.len.ensures, ap length is, c.self.inside.events.ok) in
    let y = c.index.result.now in
    let k = c.place_from-place.result in
    let found = c.index.ensures ∙ ap (λ xs. get_or xs k y) is in
    let number : y.number ≡ c.args.number = omega (arith, c.if-index-number.false) in
    let taken = c.in_ok-event.ensures.value ∙ ap (λ xs. get_or xs k x) is in
    ap (λ e. Some e.what) taken
    ∙ (there c.args.number c.args.self.now k x short at.place.0
    (ap (λ e. e.number) (any_default c.args.self.now k x y short ∙ sym found) ∙ number)).0

pub returns-clause-left : goal.returns-clause-left
returns-clause-left g c =
    let at = c.place_from-place.ensures in
    let is = c.self.view_is in
    let y = c.index.result.now in
    let short : c.place_from-place.result < length c.args.self.now = omega (arith, c.if-place-len.false, at.bound, c.len.ensures, ap length is, c.self.inside.events.ok) in
    let found = c.index.ensures ∙ ap (λ xs. get_or xs c.place_from-place.result y) is in
    let number : y.number ≡ c.args.number = omega (arith, c.if-index-number.false) in
    c.in_ok-event.ensures.items ∙ ap (λ xs. remove xs c.place_from-place.result) is
    ∙ (there c.args.number c.args.self.now c.place_from-place.result y short at.place.0 (ap (λ e. e.number) (sym found) ∙ number)).1
