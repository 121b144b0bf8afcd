use Rattle.std.proofs.Common.{◌≡◌, ◌≢◌, [], ◌∙◌, ap, sym, subst}
use Rattle.std.specs.Ordering.{nat_cmp}
use Rattle.std.specs.BTreeMap.{is_at}
use Rattle.std.specs.Map.{set_value, remove_entry}
use Rattle.flow_timers.specs.Pending.{event_at, without_event, StandInOrder}
use Rattle.flow_timers.specs.Moments.{events_of}
use Rattle.flow_timers.proofs.Filled.{all_set, all_taken, all_found}
use Rattle.flow_timers.proofs.Ordered.{without_stands}
use Rattle.flow_timers.proofs.Taking.{elsewhere, at_its_time, left_empty, none_numbered, left_none, left_some}
use Rattle.flow_timers.proofs.timers.Timers.remove.Goals as goal
use Rattle.flow_timers.proofs.timers.Timers.remove.Goals.{then-is_empty+in-Some-1, then-is_empty+in-None-1, else-is_empty}

pub returns-in_err-moment-clause-what : goal.returns-in_err-moment-clause-what
returns-in_err-moment-clause-what g c =
    let nowhere = elsewhere c.args.time c.args.number c.self.inside.moments.entries (sym c.in_err-moment.ensures.value) in
    c.from_residual.ensures ∙ sym nowhere.0 ∙ ap (λ q. event_at c.args.time c.args.number q.pending) c.self.view_is

pub returns-in_err-moment-clause-left : goal.returns-in_err-moment-clause-left
returns-in_err-moment-clause-left g c =
    let ms = c.self.inside.moments.entries in
    let nowhere = elsewhere c.args.time c.args.number ms (sym c.in_err-moment.ensures.value) in
    let same : c.get_mut.follows.lender-at-none.entries ≡ ms = ap (λ m. m.entries) (c.get_mut.follows.holds-at-none) in
    ap (λ es. record { made = c.self.inside.made; pending = es }) (ap events_of same ∙ sym nowhere.1)
    ∙ ap (λ q. record { made = q.made; pending = without_event c.args.time c.args.number q.pending }) c.self.view_is

pub invariant_of-self-in_err-what : goal.invariant_of-self-in_err-what
invariant_of-self-in_err-what g c =
    let test = is_at (nat_cmp c.args.time) in
    let ms = c.self.inside.moments.entries in
    let w = c.take.new.self in
    let old = c.in_ok-moment.moment.now in
    let written = (c.get_mut.follows.holds w).0 in
    let old_some = all_found (λ xs. xs ≢ []) test ms old c.self.invariant.0 (sym c.in_ok-moment.ensures.value) in
    let kept : w ≡ old = c.in_err-what.ensures.left ∙ none_numbered c.args.number old (sym c.in_err-what.ensures.what) in
    let taken = at_its_time c.args.time c.args.number ms old c.in_ok-moment.ensures.ordered (sym c.in_ok-moment.ensures.value) in
    let order = subst (λ xs. StandInOrder (events_of (set_value test ms xs))) (sym c.in_err-what.ensures.left)
    (subst StandInOrder taken.1 (without_stands c.args.time c.args.number (events_of ms) c.self.invariant.1)) in
    rw written (all_set (λ xs. xs ≢ []) test ms w c.self.invariant.0 (subst (λ xs. xs ≢ []) (sym kept) old_some), order)

pub returns-in_err-what-clause-what : goal.returns-in_err-what-clause-what
returns-in_err-what-clause-what g c =
    let ms = c.self.inside.moments.entries in
    let taken = at_its_time c.args.time c.args.number ms c.in_ok-moment.moment.now c.in_ok-moment.ensures.ordered (sym c.in_ok-moment.ensures.value) in
    c.from_residual-in_err-what.ensures ∙ c.in_err-what.ensures.what ∙ sym taken.0 ∙ ap (λ q. event_at c.args.time c.args.number q.pending) c.self.view_is

pub returns-in_err-what-clause-left : goal.returns-in_err-what-clause-left
returns-in_err-what-clause-left g c =
    let ms = c.self.inside.moments.entries in
    let test = is_at (nat_cmp c.args.time) in
    let taken = at_its_time c.args.time c.args.number ms c.in_ok-moment.moment.now c.in_ok-moment.ensures.ordered (sym c.in_ok-moment.ensures.value) in
    let written = (c.get_mut.follows.holds c.take.new.self).0 in
    ap (λ es. record { made = c.self.inside.made; pending = events_of es }) (written ∙ ap (λ w. set_value test ms w) c.in_err-what.ensures.left)
    ∙ ap (λ es. record { made = c.self.inside.made; pending = es }) (sym taken.1)
    ∙ ap (λ q. record { made = q.made; pending = without_event c.args.time c.args.number q.pending }) c.self.view_is

pub invariant_of-self-then-is_empty : goal.invariant_of-self-then-is_empty
invariant_of-self-then-is_empty g c =
    let test = is_at (nat_cmp c.args.time) in
    let ms = c.self.inside.moments.entries in
    let w = c.take.new.self in
    let taken = at_its_time c.args.time c.args.number ms c.in_ok-moment.moment.now c.in_ok-moment.ensures.ordered (sym c.in_ok-moment.ensures.value) in
    let written = (c.get_mut.follows.holds w).0 in
    let empty = left_none w c.is_empty.result c.is_empty.ensures c.if-is_empty.true in
    let gone = subst (λ xs. events_of (remove_entry test (set_value test ms xs)) ≡ events_of (set_value test ms xs)) (sym empty) (left_empty test ms) in
    let left = subst (λ xs. StandInOrder (events_of (set_value test ms xs))) (sym c.in_ok-what.ensures.left)
    (subst StandInOrder taken.1 (without_stands c.args.time c.args.number (events_of ms) c.self.invariant.1)) in
    rw c.remove.ensures.entries (rw written (all_taken (λ xs. xs ≢ []) test ms w c.self.invariant.0, subst StandInOrder (sym gone) left))

pub invariant_of-self-else-is_empty : goal.invariant_of-self-else-is_empty
invariant_of-self-else-is_empty g c =
    let test = is_at (nat_cmp c.args.time) in
    let ms = c.self.inside.moments.entries in
    let w = c.take.new.self in
    let taken = at_its_time c.args.time c.args.number ms c.in_ok-moment.moment.now c.in_ok-moment.ensures.ordered (sym c.in_ok-moment.ensures.value) in
    let written = (c.get_mut.follows.holds w).0 in
    let left = subst (λ xs. StandInOrder (events_of (set_value test ms xs))) (sym c.in_ok-what.ensures.left)
    (subst StandInOrder taken.1 (without_stands c.args.time c.args.number (events_of ms) c.self.invariant.1)) in
    rw written (all_set (λ xs. xs ≢ []) test ms w c.self.invariant.0 (left_some w c.is_empty.result c.is_empty.ensures c.if-is_empty.false), left)

pub returns-clause-what : goal.returns-clause-what
returns-clause-what g c =
    let ms = c.self.inside.moments.entries in
    let taken = at_its_time c.args.time c.args.number ms c.in_ok-moment.moment.now c.in_ok-moment.ensures.ordered (sym c.in_ok-moment.ensures.value) in
    c.in_ok-what.ensures.what ∙ sym taken.0 ∙ ap (λ q. event_at c.args.time c.args.number q.pending) c.self.view_is

pub returns-clause-left : goal.returns-clause-left
returns-clause-left g c =
    let made = c.self.inside.made in
    let ms = c.self.inside.moments.entries in
    let test = is_at (nat_cmp c.args.time) in
    let left = c.take.new.self in
    let taken = at_its_time c.args.time c.args.number ms c.in_ok-moment.moment.now c.in_ok-moment.ensures.ordered (sym c.in_ok-moment.ensures.value) in
    let written = (c.get_mut.follows.holds left).0 in
    let is = ap (λ es. record { made = made; pending = es }) (ap (λ xs. events_of (set_value test ms xs)) c.in_ok-what.ensures.left ∙ sym taken.1)
    ∙ ap (λ q. record { made = q.made; pending = without_event c.args.time c.args.number q.pending }) c.self.view_is in
    elim c.if-is_empty.branch [
      | then-is_empty+in-Some-1 w ↦
          let empty = left_none left c.is_empty.result c.is_empty.ensures w.if-is_empty.true in
          w.self-is
          ∙ ap (λ es. record { made = made; pending = es })
          (ap events_of (w.remove.ensures.entries ∙ ap (λ es. remove_entry test es) written)
          ∙ subst (λ xs. events_of (remove_entry test (set_value test ms xs)) ≡ events_of (set_value test ms xs)) (sym empty) (left_empty test ms))
          ∙ is
      | then-is_empty+in-None-1 w ↦
          let empty = left_none left c.is_empty.result c.is_empty.ensures w.if-is_empty.true in
          w.self-is
          ∙ ap (λ es. record { made = made; pending = es })
          (ap events_of (w.remove.ensures.entries ∙ ap (λ es. remove_entry test es) written)
          ∙ subst (λ xs. events_of (remove_entry test (set_value test ms xs)) ≡ events_of (set_value test ms xs)) (sym empty) (left_empty test ms))
          ∙ is
      | else-is_empty w ↦ w.self-is ∙ ap (λ es. record { made = made; pending = events_of es }) written ∙ is
    ]
