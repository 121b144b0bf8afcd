use Rattle.std.proofs.Common.{◌≡◌, ◌+◌, true, false, sym, ap, subst, ◌∙◌}
use Rattle.flow_types.specs.Holding.{marked, uses_hold}
use Rattle.flow_types.proofs.Levels.{Sweeping, sweep_marks, sweep_passes, sweep_end}
use Rattle.flow_types.proofs.holding.sweep.Goals as goal
use Rattle.flow_types.proofs.holding.sweep.Goals.{then-not-is_marked+then-uses_hold, else-not-is_marked, else-not-is_marked-via-then-not-is_marked+else-uses_hold, else-not-is_marked-via-else-not-is_marked}

pub loop-number-preserved : goal.loop-number-preserved
loop-number-preserved c =
    let us = c.args.uses.now in
    let old = c.args.marks.now.items in
    let bs = c.loop-number.marks.items in
    let i = c.loop-number.number in
    let u = c.index-uses-number.result in
    let is_marked = ap (λ l. marked l i) (sym c.deref.ensures.value) ∙ sym c.is_marked.ensures in
    elim c.if-not-is_marked.branch [
      | then-not-is_marked+then-uses_hold w ↦
          subst (λ m. Sweeping us old c.if-not-is_marked.marks.items (i + 1) m) (sym w.more-is)
          (sweep_marks us old bs c.if-not-is_marked.marks.items i c.loop-number.more u c.loop-number-test.true c.index-uses-number.is (is_marked ∙ w.if-not-is_marked.true)
          (ap (λ l. uses_hold (marked l) u) (sym w.deref-then-not-is_marked.ensures.value) ∙ sym w.uses_hold.ensures ∙ w.if-uses_hold.true)
          (ap (λ v. v.items) w.marks-is ∙ w.mark.ensures) c.loop-number.invariant)
      | else-not-is_marked w ↦
          subst (λ m. Sweeping us old c.if-not-is_marked.marks.items (i + 1) m) (sym w.more-is)
          (subst (λ v. Sweeping us old v.items (i + 1) c.loop-number.more) (sym w.marks-is)
          (sweep_passes us old bs i c.loop-number.more u c.loop-number-test.true c.index-uses-number.is
          (elim w.else-not-is_marked.branch [
            | else-not-is_marked-via-then-not-is_marked+else-uses_hold v ↦ λ e. ap (λ l. uses_hold (marked l) u) (sym v.deref-then-not-is_marked.ensures.value) ∙ sym v.uses_hold.ensures
                ∙ v.if-uses_hold.false
            | else-not-is_marked-via-else-not-is_marked v ↦ λ e. let both : true ≡ false = sym v.if-not-is_marked.false ∙ sym is_marked ∙ e in cc
          ])
          c.loop-number.invariant))
    ]

pub returns-clause-swept : goal.returns-clause-swept
returns-clause-swept c =
    sweep_end c.args.uses.now c.args.marks.now.items c.loop-number.marks.items c.loop-number.number c.loop-number.more c.loop-number-test.false c.loop-number.invariant
