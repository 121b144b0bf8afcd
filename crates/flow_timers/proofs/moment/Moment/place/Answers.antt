use Rattle.std.proofs.Common.{◌∙◌, arith, length, ap, zero-le, le_of_lt}
use Rattle.std.proofs.lemmas.List.Sorted.{IsNonDecreasingBy-insert}
use Rattle.std.specs.List.{insert}
use Rattle.flow_timers.proofs.Numbering.{put_in_place}
use Rattle.flow_timers.proofs.moment.Moment.place.Goals as goal

pub returns-clause-placed : goal.returns-clause-placed
returns-clause-placed g c =
    let at = c.place_after-place.ensures in
    c.in_ok-insert.ensures.items ∙ ap (λ xs. insert xs c.place_after-place.result (record { number = c.args.number; what = c.args.what })) c.self.view_is
    ∙ put_in_place _ _ _ at.bound at.place.0 at.place.1

pub invariant_of-self-2 : goal.invariant_of-self-2
invariant_of-self-2 g c =
    let at = c.place_after-place.ensures in
    rw c.in_ok-insert.ensures.items
    (IsNonDecreasingBy-insert (λ e. e.number) c.self.inside.events.items c.place_after-place.result (record { number = c.args.number; what = c.args.what }) c.self.invariant
    (rw c.self.view_is at.bound)
    (rw c.self.view_is (λ k d lt. at.place.0 k d zero-le lt))
    (rw c.self.view_is (λ k d from lt. le_of_lt (at.place.1 k d from lt))))

pub insert-requires : goal.insert-requires
insert-requires g c = omega (arith, c.place_after-place.ensures.bound, ap length c.self.view_is, c.self.inside.events.ok)
