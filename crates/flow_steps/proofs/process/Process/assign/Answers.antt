use Rattle.std.proofs.Common.{ap, length, ◌≡◌, ◌⊎◌, [], ◌∙◌, subst}
use Rattle.std.proofs.lemmas.Bool.{false≢true}
use Rattle.std.specs.Bool.{◌==◌}
use Rattle.flow_code.specs.declared.expr.names.FieldNames.{FieldNames}
use Rattle.flow_steps.specs.Points.{place_held}
use Rattle.flow_steps.specs.Stuck.{NoPlace, PartMissing}
use Rattle.flow_steps.proofs.Holding.{on_stuck_weaker}
use Rattle.flow_steps.proofs.Before.{aims_stuck}
use Rattle.flow_steps.proofs.process.Process.assign.Goals as goal

pub returns-clause-stuck : goal.returns-clause-stuck
returns-clause-stuck c =
    let i = c.args.actor.0 in
    let aim = c.args.aim.now in
    let h = c.args.self.now.heap in
    let some : aim.path.items ≡ [] → ⊥ = λ e. false≢true (c.if-is_empty.ensures ∙ ap (λ k. k == 0) (aim.path.ok.0 ∙ ap length e)) in
    on_stuck_weaker c.put_part.result _ _
    (λ m. aims_stuck c.args.code.now.fields i aim h some
    (subst (λ (f : FieldNames). NoPlace i aim.place h ⊎ PartMissing f aim.path.items (place_held i aim.place h)) c.fields.ensures m))
    c.put_part.ensures.stuck
