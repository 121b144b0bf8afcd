use Rattle.std.proofs.Common.{◌≡◌, drop, Some, ap, ◌∙◌, arith}
use Rattle.flow_numbered.specs.Rows.{place_in, things_in}
use Rattle.flow_numbered.specs.Numbered.{next_above}
use Rattle.flow_numbered.proofs.RowLemmas.{place_within, after_found, rising_in}
use Rattle.flow_numbered.proofs.numbered.Numbered.next_above.Goals as goal
use Rattle.flow_numbered.proofs.numbered.Numbered.next_above.Goals.{in-Some, in-None}

pub overflow_add-from : goal.overflow_add-from
overflow_add-from g c =
    let e : place_in c.self.inside.rows.items c.args.number ≡ Some c.in-Some.place = grind (arith, c.deref.ensures.value) in
    let within = place_within c.self.inside.rows.items c.args.number c.in-Some.place e in
    omega (arith, c.deref.ensures.len)

pub returns-clause-value : goal.returns-clause-value
returns-clause-value g c =
    let rs = c.self.inside.rows.items in
    let n = c.args.number in
    let read = c.live_from.ensures ∙ ap (λ xs. next_above (things_in (drop c.match-place_of.from xs)) n) c.deref-2.ensures.value in
    let rest : next_above (things_in (drop c.match-place_of.from rs)) n ≡ next_above (things_in rs) n = elim c.match-place_of.branch [
      | in-Some w ↦
          let e : place_in rs n ≡ Some w.in-Some.place = grind (arith, c.deref.ensures.value) in
          after_found 0 rs c.self.inside.greatest n w.in-Some.place _ (omega (arith, w.from-is)) c.self.invariant e
      | in-None w ↦ ap (λ j. next_above (things_in (drop j rs)) n) w.from-is
    ] in
    rw (← c.self.view_is) (read ∙ rest)

pub returns-clause-rising : goal.returns-clause-rising
returns-clause-rising g c = rw (← c.self.view_is) (rising_in 0 _ _ c.self.invariant)
