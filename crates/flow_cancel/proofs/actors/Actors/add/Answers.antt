use Rattle.std.proofs.Common.{◌≡◌, ◌<◌, ℕ, nat_eq, Option, ap, sym, ◌∙◌, arith}
use Rattle.std.specs.HashMap as hash
use Rattle.flow_numbered.specs.Numbered.{Store}
use Rattle.flow_cancel.specs.declared.actors.Note.{Note}
use Rattle.flow_cancel.proofs.Told.{told_added, owners_same}
use Rattle.flow_cancel.proofs.actors.Actors.add.Goals as goal

pub invariant_of-self-2 : goal.invariant_of-self-2
invariant_of-self-2 c =
    let above : c.self.inside.notes.greatest < c.args.actor.0 = omega (arith, c.requires.above, ap (λ (s : Store Note). s.greatest) c.self.view_is) in
    rw c.in_ok-insert.ensures.ok
    (told_added _ _ c.self.invariant _ c.insert.ensures.rising _ c.args.actor.0 c.args.cell above (rw (← c.self.view_is) at c.requires.alone)
    (λ k. c.own.ensures k ∙ owners_same c.args.cell c.args.actor.0 _ _ k (c.reserve.ensures.entries.2 k)))
