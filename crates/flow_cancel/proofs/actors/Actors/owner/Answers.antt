use Rattle.std.proofs.Common.{◌≡◌, ℕ, nat_eq, Some, None, unwrap_or, option_copied, sym, ap, ◌∙◌}
use Rattle.std.specs.HashMap as hash
use Rattle.flow_cancel.proofs.Told.{owner_noted, owner_none}
use Rattle.flow_cancel.proofs.actors.Actors.owner.Goals as goal

pub returns-in-Some : goal.returns-in-Some
returns-in-Some c =
    let told : c.unwrap_or-owner.result ≡ unwrap_or (hash.get nat_eq c.self.inside.owners c.args.cell.0) 0 =
    c.unwrap_or-owner.ensures ∙ ap (λ o. unwrap_or o 0) (c.copied.ensures ∙ c.get.ensures.value) in
    rw (← c.self.view_is) (sym (owner_noted _ _ c.self.invariant _ c.get-2.ensures.rising c.args.cell.0 _ _ told (sym c.get-2.ensures.value ∙ ap option_copied c.in-Some.is)))

pub returns-in-None : goal.returns-in-None
returns-in-None c =
    let told : c.unwrap_or-owner.result ≡ unwrap_or (hash.get nat_eq c.self.inside.owners c.args.cell.0) 0 =
    c.unwrap_or-owner.ensures ∙ ap (λ o. unwrap_or o 0) (c.copied.ensures ∙ c.get.ensures.value) in
    rw (← c.self.view_is) (sym (owner_none _ _ c.self.invariant _ c.get-2.ensures.rising c.args.cell.0 _ told (sym c.get-2.ensures.value ∙ ap option_copied c.in-None.is)))
