use Rattle.std.proofs.Common.{◌<◌, [], ◌∷◌, ℕ, List, set, length, Some, refl, sym, subst, ◌∙◌, arith}
use Rattle.std.proofs.lemmas.Option.{slice_get_read}
use Rattle.flow_validate.specs.WalkStates.{standing, plain_way, Entered}
use Rattle.flow_validate.proofs.Entering.{stays, widens}
use Rattle.flow_validate.proofs.filling.Walks.enter.Goals as goal

pub returns-in_ok-push : goal.returns-in_ok-push
returns-in_ok-push c =
    let es = c.args.self.now.entries.items in
    let b = c.args.block in
    let lt : b < length es = omega (arith, c.if-number-len.false, c.len.ensures) in
    let is = slice_get_read es (length es) b c.index.result.now refl lt c.index.ensures in
    subst (λ (t : List ℕ). Entered (standing c.args.self.now) (record { entries = set es b (Some c.in-Some.all); todo = t }) (plain_way c.args.empty b ∷ [])) (sym c.in_ok-push.ensures.items)
    (widens (standing c.args.self.now) c.args.empty b c.index.result.now c.in-Some.all is (sym c.widened.ensures.becomes ∙ c.in-Some.is) c.in-Some.ensures.small)

pub returns-in_default : goal.returns-in_default
returns-in_default c =
    let es = c.args.self.now.entries.items in
    let b = c.args.block in
    let lt : b < length es = omega (arith, c.if-number-len.false, c.len.ensures) in
    stays (standing c.args.self.now) c.args.empty b c.index.result.now (slice_get_read es (length es) b c.index.result.now refl lt c.index.ensures)
    (sym c.widened.ensures.becomes ∙ c.in_default.is)
