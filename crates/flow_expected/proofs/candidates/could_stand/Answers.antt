use Rattle.std.proofs.Common.{◌≡◌, ◌≢◌, ◌+◌, ◌<◌, ◌≤◌, Bool, true, false, List, [], ◌∷◌, ◌++◌, length, take, get_or, take_all, ℕ, refl, sym, ap, ◌∙◌, subst, arith}
use Rattle.flow_base.specs.declared.place.Place.{Place}
use Rattle.flow_tree.specs.declared.token.Token.{Token}
use Rattle.flow_tree.specs.declared.token.Spot.{Spot}
use Rattle.flow_tree.specs.declared.token.Tokens.{Tokens}
use Rattle.flow_tree.specs.GrammarToken.{Good}
use Rattle.flow_tree.specs.GrammarDecl.{ProgramRule}
use Rattle.flow_expected.specs.declared.kind.Kind.{Kind}
use Rattle.flow_expected.specs.declared.kind.Kind.TheVariants.{Name}
use Rattle.flow_expected.specs.Expected.{spelled, Decides, Picks, none, CouldStand}
use Rattle.flow_expected.proofs.Placed.{counts_one_more, still_reached, place_last, stands, picks_more, passes_more, without_last}
use Rattle.flow_expected.proofs.candidates.could_stand.Goals as goal

pub loop-kind-init : goal.loop-kind-init
loop-kind-init c = record {
  spots = c.truncate.ensures.items;
  place = c.place-at.ensures;
  apart = c.other_than-tokens.ensures;
  number = refl;
  picks = subst (Picks (CouldStand c.args.tokens c.args.number) []) (sym c.new-found.ensures.items) none;
}

pub begins_one-requires-clause-one_more : goal.begins_one-requires-clause-one_more
begins_one-requires-clause-one_more c =
    counts_one_more c.args.tokens (record { spots = c.push.new.self; end = c.loop-kind.tokens.end }) c.args.number
    (record { token = c.in_ok-token.token; at = c.place-at.result }) c.requires.within
    (c.in_ok-push.ensures.items ∙ ap (λ l. l ++ record { token = c.in_ok-token.token; at = c.place-at.result } ∷ []) c.loop-kind.invariant.spots)

pub begins_one-requires-clause-reached : goal.begins_one-requires-clause-reached
begins_one-requires-clause-reached c =
    still_reached c.args.tokens (record { spots = c.push.new.self; end = c.loop-kind.tokens.end }) c.args.number
    (record { token = c.in_ok-token.token; at = c.place-at.result }) c.requires.within
    (c.in_ok-push.ensures.items ∙ ap (λ l. l ++ record { token = c.in_ok-token.token; at = c.place-at.result } ∷ []) c.loop-kind.invariant.spots)
    c.requires.reached

pub begins_one-requires-clause-apart : goal.begins_one-requires-clause-apart
begins_one-requires-clause-apart c = λ e. c.loop-kind.invariant.apart (sym e ∙
    place_last c.args.tokens (record { spots = c.push.new.self; end = c.loop-kind.tokens.end }) c.args.number
    (record { token = c.in_ok-token.token; at = c.place-at.result }) c.requires.within
    (c.in_ok-push.ensures.items ∙ ap (λ l. l ++ record { token = c.in_ok-token.token; at = c.place-at.result } ∷ []) c.loop-kind.invariant.spots))

pub loop-kind-preserved : goal.loop-kind-preserved
loop-kind-preserved c = record {
  spots = c.truncate-in-loop-kind.ensures.items
      ∙ ap (take c.args.number) (c.in_ok-push.ensures.items ∙ ap (λ l. l ++ record { token = c.in_ok-token.token; at = c.place-at.result } ∷ []) c.loop-kind.invariant.spots)
      ∙ without_last c.args.tokens.spots.items (record { token = c.in_ok-token.token; at = c.place-at.result }) c.args.number c.requires.within;
  place = c.place-at.ensures;
  apart = c.loop-kind.invariant.apart;
  number = refl;
  picks = elim c.if-branch.branch [
    | goal.then-branch+in_ok-push-2 w ↦ subst (Picks Stands (take (c.loop-kind.kind-index + 1) c.args.kinds.now))
        (sym (ap (λ v. v.items) w.found-is ∙ w.in_ok-push-2.ensures.items))
        (picks_more Stands c.args.kinds.now c.loop-kind.found.items c.loop-kind.kind-index Name c.loop-kind-test.true c.loop-kind.invariant.picks (decided true w.if-branch.true))
    | goal.else-branch w ↦ subst (Picks Stands (take (c.loop-kind.kind-index + 1) c.args.kinds.now))
        (sym (ap (λ v. v.items) w.found-is))
        (passes_more Stands c.args.kinds.now c.loop-kind.found.items c.loop-kind.kind-index Name c.loop-kind-test.true c.loop-kind.invariant.picks (decided false w.if-branch.false))
  ];
}
  where
    Stands : Kind → Type 0
    Stands = CouldStand c.args.tokens c.args.number

    placed : Spot
    placed = record { token = c.in_ok-token.token; at = c.place-at.result }

    decided : (fits : Bool) → c.in_ok-begins_one.field-0 ≡ fits → Decides fits (Stands (get_or c.args.kinds.now c.loop-kind.kind-index Name))
    decided fits e = stands c.args.tokens (record { spots = c.push.new.self; end = c.loop-kind.tokens.end }) c.args.number placed c.requires.within
        (c.in_ok-push.ensures.items ∙ ap (λ l. l ++ placed ∷ []) c.loop-kind.invariant.spots)
        (get_or c.args.kinds.now c.loop-kind.kind-index Name) fits
        (ap (λ x. record { token = x; at = c.place-at.result }) c.in_ok-token.ensures ∙ ap (λ p. record { token = spelled (get_or c.args.kinds.now c.loop-kind.kind-index Name); at = p }) c.place-at.ensures)
        (subst (λ b. Decides b (Good (ProgramRule c.loop-kind.tokens.end) 2 c.push.new.self.items)) e c.in_ok-begins_one.ensures)

pub returns : goal.returns
returns c = subst (λ xs. Picks (CouldStand c.args.tokens c.args.number) xs c.loop-kind.found.items)
    (take_all c.loop-kind.kind-index c.args.kinds.now c.loop-kind-test.false) c.loop-kind.invariant.picks
