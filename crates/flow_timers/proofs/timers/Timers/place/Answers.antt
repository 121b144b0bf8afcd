use Rattle.std.proofs.Common.{◌≡◌, ◌≢◌, [], ◌∙◌, ap, ap₂, sym, subst, Some, None}
use Rattle.std.specs.Ordering.{nat_cmp}
use Rattle.std.specs.List.{All}
use Rattle.std.specs.BTreeMap.{is_at, insert_entry}
use Rattle.std.specs.Map.{lookup, set_value}
use Rattle.flow_timers.specs.Pending.{placed, StandInOrder}
use Rattle.flow_timers.specs.Moments.{events_of}
use Rattle.flow_timers.proofs.Filled.{all_set, all_inserted, all_found, numbered_some, in_both}
use Rattle.flow_timers.proofs.Ordered.{placed_stands}
use Rattle.flow_timers.proofs.Placing.{at_new_time, at_same_time, put_back, on_ok, on_err}
use Rattle.flow_timers.proofs.timers.Timers.place.Goals as goal

pub returns-in-Some-clause-placed : goal.returns-in-Some-clause-placed
returns-in-Some-clause-placed g c =
    let t = c.args.time in
    let ms = c.self.inside.moments.entries in
    let old = c.in-Some.moment.now in
    let found : lookup (is_at (nat_cmp t)) ms ≡ Some old = sym c.in-Some.ensures.value in
    let written = (c.get_mut.follows.holds c.place.new.self).0 in
    on_ok c.place.result
    (λ e. ap events_of (written ∙ ap (λ w. set_value (is_at (nat_cmp t)) ms w) e)
    ∙ at_same_time t (record { number = c.args.number; what = c.args.what }) ms old c.in-Some.ensures.ordered found
    ∙ ap (λ q. placed (record { time = t; number = c.args.number; what = c.args.what }) q.pending) c.self.view_is)
    c.place.ensures.placed

pub returns-in-Some-clause-unchanged : goal.returns-in-Some-clause-unchanged
returns-in-Some-clause-unchanged g c =
    let t = c.args.time in
    let ms = c.self.inside.moments.entries in
    let old = c.in-Some.moment.now in
    let found : lookup (is_at (nat_cmp t)) ms ≡ Some old = sym c.in-Some.ensures.value in
    let written = (c.get_mut.follows.holds c.place.new.self).0 in
    on_err c.place.result
    (λ e. ap (λ es. record { made = c.self.inside.made; pending = events_of es }) (written ∙ ap (λ w. set_value (is_at (nat_cmp t)) ms w) e ∙ put_back t ms old found) ∙ c.self.view_is)
    c.place.ensures.unchanged

pub returns-in_ok-insert-in-None-clause-placed : goal.returns-in_ok-insert-in-None-clause-placed
returns-in_ok-insert-in-None-clause-placed g c =
    let t = c.args.time in
    let ms = c.self.inside.moments.entries in
    let same : c.get_mut.follows.lender-at-none.entries ≡ ms = ap (λ m. m.entries) (c.get_mut.follows.holds-at-none) in
    let none : lookup (is_at (nat_cmp t)) ms ≡ None = sym c.in-None.ensures.value in
    ap events_of (c.in_ok-insert-in-None.ensures.entries ∙ ap₂ (λ es m. insert_entry nat_cmp es t m) same c.in_ok-moment-in-None.ensures)
    ∙ at_new_time t (record { number = c.args.number; what = c.args.what }) ms c.in-None.ensures.ordered none
    ∙ ap (λ q. placed (record { time = t; number = c.args.number; what = c.args.what }) q.pending) c.self.view_is

pub invariant_of-self : goal.invariant_of-self
invariant_of-self g c =
    let t = c.args.time in
    let test = is_at (nat_cmp t) in
    let ms = c.self.inside.moments.entries in
    let w = c.place.new.self in
    let old = c.in-Some.moment.now in
    let found : lookup test ms ≡ Some old = sym c.in-Some.ensures.value in
    let written = (c.get_mut.follows.holds w).0 in
    let old_some = all_found (λ xs. xs ≢ []) test ms old c.self.invariant.0 found in
    let some = in_both c.place.result
    (on_ok c.place.result (λ e. subst (λ xs. xs ≢ []) (sym e) (numbered_some _ old)) c.place.ensures.placed)
    (on_err c.place.result (λ e. subst (λ xs. xs ≢ []) (sym e) old_some) c.place.ensures.unchanged) in
    let placed_ones = subst StandInOrder (sym (at_same_time t (record { number = c.args.number; what = c.args.what }) ms old c.in-Some.ensures.ordered found))
    (placed_stands (record { time = t; number = c.args.number; what = c.args.what }) (events_of ms) c.self.invariant.1) in
    let same_ones = subst (λ es. StandInOrder (events_of es)) (sym (put_back t ms old found)) c.self.invariant.1 in
    let order = in_both c.place.result
    (on_ok c.place.result (λ e. subst (λ xs. StandInOrder (events_of (set_value test ms xs))) (sym e) placed_ones) c.place.ensures.placed)
    (on_err c.place.result (λ e. subst (λ xs. StandInOrder (events_of (set_value test ms xs))) (sym e) same_ones) c.place.ensures.unchanged) in
    rw written (all_set (λ xs. xs ≢ []) test ms w c.self.invariant.0 some, order)

pub invariant_of-self-in-None : goal.invariant_of-self-in-None
invariant_of-self-in-None g c =
    let t = c.args.time in
    let ms = c.self.inside.moments.entries in
    let same : c.get_mut.follows.lender-at-none.entries ≡ ms = ap (λ m. m.entries) (c.get_mut.follows.holds-at-none) in
    let none : lookup (is_at (nat_cmp t)) ms ≡ None = sym c.in-None.ensures.value in
    let moment = c.in_ok-moment-in-None.moment in
    let some = subst (λ xs. xs ≢ []) (sym c.in_ok-moment-in-None.ensures) (numbered_some (record { number = c.args.number; what = c.args.what }) []) in
    let is = ap₂ (λ es m. events_of (insert_entry nat_cmp es t m)) same c.in_ok-moment-in-None.ensures
    ∙ at_new_time t (record { number = c.args.number; what = c.args.what }) ms c.in-None.ensures.ordered none in
    let order = subst StandInOrder (sym is) (placed_stands (record { time = t; number = c.args.number; what = c.args.what }) (events_of ms) c.self.invariant.1) in
    rw c.in_ok-insert-in-None.ensures.entries
    (all_inserted (λ xs. xs ≢ []) nat_cmp _ t moment (subst (λ es. All (λ m. m.1 ≢ []) es) (sym same) c.self.invariant.0) some, order)
