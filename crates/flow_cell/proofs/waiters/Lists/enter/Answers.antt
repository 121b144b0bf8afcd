use Rattle.std.proofs.Common.{◌≡◌, ℕ, [], ◌∷◌, Option, Some, None, refl, ap, ◌∙◌, Result, Ok, Err, OnErr, arith, if◌then◌else◌}
use Rattle.flow_numbered.specs.Links.{Slots, no_links, pushed, longer}
use Rattle.flow_numbered.specs.declared.links.Ends.{Ends}
use Rattle.flow_cell.specs.Waiting.{same_spot, spot_of, waiters_in}
use Rattle.flow_cell.specs.Lines.{Becomes, links_of, newest_of}
use Rattle.flow_cell.specs.declared.waiter.Waiter.{Waiter}
use Rattle.flow_cell.specs.declared.queue.Spot.{Spot}
use Rattle.flow_cell.specs.declared.queue.Waiting.{Waiting}
use Rattle.flow_cell.proofs.Lines.{becomes_same, becomes_both, retold, list_same, list_longer}
use Rattle.flow_cell.proofs.waiters.Lists.enter.Goals as goal

on_err : {A E P : Type 0} (r : Result A E) → P → OnErr r P
on_err (Ok a) p = tt
on_err (Err e) p = p

pub returns-in_err-join-in-One-clause-err : goal.returns-in_err-join-in-One-clause-err
returns-in_err-join-in-One-clause-err c =
    let stay = c.in_err-join-in-One.ensures in
    on_err c.from_residual-in_err-join-in-One.result (rw c.in-One.is (becomes_same c.args.cell.0 _ _ refl stay.links_stay stay.newest_stays refl))

pub returns-in_err-join-in-Listed-clause-err : goal.returns-in_err-join-in-Listed-clause-err
returns-in_err-join-in-Listed-clause-err c =
    let stay = c.in_err-join-in-Listed.ensures in
    let lent : c.deref_mut-in-Listed.result.now ≡ c.in-Listed.ends.value = grind arith in
    on_err c.from_residual-in_err-join-in-Listed.result (rw c.in-Listed.is (list_same c.args.cell.0 _ _ _ _ c.in-Listed.ends.value _ (stay.ends_stay ∙ lent) stay.links_stay stay.newest_stays))

pub returns-in_ok-join-in-Listed-clause-ok : goal.returns-in_ok-join-in-Listed-clause-ok
returns-in_ok-join-in-Listed-clause-ok c =
    let l = c.args.self.now in
    let done = c.in_ok-join-in-Listed.ensures in
    let lent : c.deref_mut-in-Listed.result.now ≡ c.in-Listed.ends.value = grind arith in
    let longer = list_longer c.args.cell.0 c.in_ok-join-in-Listed.field-0 (links_of l) _ (newest_of l) _ c.deref_mut-in-Listed.result.now _ c.new-in-Listed.result
    (ap (λ (s : Spot). s.cell) c.new-in-Listed.ensures) done.vacant done.links done.ends done.newest in
    rw c.in-Listed.is (rw (lent, c.new-in-Listed.ensures) at longer)

-- the one waiter stands in a list now
module _ (n key : ℕ) (first : Waiter) (at new_at : Slots Waiting) (newest new_newest : Spot → Option ℕ) (e d : Ends) (spot : Spot) where
  listed_now : e ≡ no_links → spot ≡ spot_of n first → at key ≡ None → ((k : ℕ) → new_at k ≡ pushed at e.last key (record { spot = spot; older = newest spot }) k) → d ≡ longer e key
      → ((s : Spot) → new_newest s ≡ (if same_spot spot s then Some key else newest s))
      → Becomes n (λ ws. ws) (record { at = at; newest = newest; ends = no_links; waiters = first ∷ [] }) (record { at = new_at; newest = new_newest; ends = d; waiters = waiters_in new_at d })
  listed_now empty names vacant writes is notes =
      let longer = list_longer n key at new_at newest new_newest e d spot (ap (λ (s : Spot). s.cell) names) vacant writes is notes in
      retold n _ (λ ws. ws) _ _ (first ∷ []) refl (rw (empty, names) at longer)

pub returns-in_err-joined-in-One-clause-err : goal.returns-in_err-joined-in-One-clause-err
returns-in_err-joined-in-One-clause-err c =
    let l = c.args.self.now in
    let done = c.in_ok-join-in-One.ensures in
    let stay = c.in_err-joined-in-One.ensures in
    let empty : c.deref_mut.result.now ≡ no_links = grind (arith, c.new.ensures) in
    let lent : c.deref_mut-in-One.result.now ≡ c.join.new.ends = grind arith in
    let first = listed_now c.args.cell.0 c.in_ok-join-in-One.field-0 c.in-One.first (links_of l) _ (newest_of l) _ c.deref_mut.result.now _ c.new-spot.result empty c.new-spot.ensures
    done.vacant done.links done.ends done.newest in
    let then_same = list_same c.args.cell.0 _ _ _ _ c.join.new.ends _ (stay.ends_stay ∙ lent) stay.links_stay stay.newest_stays in
    on_err c.from_residual-in_err-joined-in-One.result (rw c.in-One.is (becomes_both _ _ _ _ _ _ first then_same))

pub returns-in_ok-joined-in-One-clause-ok : goal.returns-in_ok-joined-in-One-clause-ok
returns-in_ok-joined-in-One-clause-ok c =
    let l = c.args.self.now in
    let done = c.in_ok-join-in-One.ensures in
    let more = c.in_ok-joined-in-One.ensures in
    let empty : c.deref_mut.result.now ≡ no_links = grind (arith, c.new.ensures) in
    let lent : c.deref_mut-in-One.result.now ≡ c.join.new.ends = grind arith in
    let first = listed_now c.args.cell.0 c.in_ok-join-in-One.field-0 c.in-One.first (links_of l) _ (newest_of l) _ c.deref_mut.result.now _ c.new-spot.result empty c.new-spot.ensures
    done.vacant done.links done.ends done.newest in
    let second = list_longer c.args.cell.0 c.in_ok-joined-in-One.field-0 _ _ _ _ c.deref_mut-in-One.result.now _ c.new-spot-in-One.result
    (ap (λ (s : Spot). s.cell) c.new-spot-in-One.ensures) more.vacant more.links more.ends more.newest in
    rw c.in-One.is (becomes_both _ _ _ _ _ _ first (rw (lent, c.new-spot-in-One.ensures) at second))
