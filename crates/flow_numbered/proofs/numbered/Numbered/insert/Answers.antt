use Rattle.std.proofs.Common.{◌≡◌, ◌<◌, Some, sym, ap, ◌∙◌, subst, arith}
use Rattle.flow_numbered.specs.Numbered.{Store, added}
use Rattle.flow_numbered.specs.Rows.{things_in, RowsRise}
use Rattle.flow_numbered.proofs.RowLemmas.{rising_in, rise_more, things_more}
use Rattle.flow_numbered.proofs.numbered.Numbered.insert.Goals as goal

pub returns-in_err-push-clause-rising : goal.returns-in_err-push-clause-rising
returns-in_err-push-clause-rising g c = rw (← c.self.view_is) (rising_in 0 _ _ c.self.invariant)

pub invariant_of-self-2 : goal.invariant_of-self-2
invariant_of-self-2 g c =
    let above : c.self.inside.greatest < c.args.number = omega (arith, c.requires, ap (λ (s : Store g.row.V.Denot). s.greatest) c.self.view_is) in
    let tidied = c.tidy-self-inside.ensures.rise 0 _ c.self.invariant in
    subst (λ rs. RowsRise 0 rs c.args.number) (sym c.in_ok-push.ensures.items) (rise_more 0 _ _ c.args.number (Some c.args.value) tidied above)

pub returns-clause-ok : goal.returns-clause-ok
returns-clause-ok g c =
    let is = ap things_in c.in_ok-push.ensures.items ∙ things_more c.tidy-self-inside.new.rows.items c.args.number c.args.value
    ∙ ap (λ xs. added xs c.args.number c.args.value) c.tidy-self-inside.ensures.same in
    rw (← c.self.view_is) (ap (λ xs. record { things = xs; greatest = c.args.number }) is)

pub returns-clause-rising : goal.returns-clause-rising
returns-clause-rising g c = rw (← c.self.view_is) (rising_in 0 _ _ c.self.invariant)
