use Rattle.std.proofs.Common.{rules, inl, inr, sym, subst, ◌⊎◌, ◌∙◌}
use Rattle.std.specs.declared.option.Option.TheVariants.{None}
use Rattle.flow_steps.specs.declared.process.Process.{Process}
use Rattle.flow_steps.specs.Points.{place_held}
use Rattle.flow_steps.specs.Stuck.{NoPlace, PartMissing}
use Rattle.flow_steps.proofs.Holding.{if_stuck_weaker}
use Rattle.flow_steps.proofs.Before.{place_still, nothing_held}
use Rattle.flow_steps.proofs.process.Process.put_part.Goals as goal

pub returns-in_err-put-clause-stuck : goal.returns-in_err-put-clause-stuck
returns-in_err-put-clause-stuck c =
    let i = c.args.actor.0 in
    let n = c.args.aim.now.place in
    let now = c.args.self.now.heap in
    let here = place_held i n now in
    let h = if_stuck_weaker c.in_err-put.field-0.0 _ (NoPlace i n now ⊎ PartMissing c.args.fields.now c.args.aim.now.path.items here)
    (λ m. inl (place_still i n n None now (subst (λ (x : Process). NoPlace i n x.heap) c.in_ok-root.ensures.changed m)))
    c.in_err-put.ensures.stuck in
    search (rules, h)

pub returns-in_default-clause-stuck : goal.returns-in_default-clause-stuck
returns-in_default-clause-stuck c = inr (nothing_held c.args.fields.now c.args.aim.now.path.items _ (sym c.in_ok-root.ensures.held ∙ c.in_default.is))
