use Rattle.std.proofs.Common.{inr, subst}
use Rattle.std.proofs.lemmas.Result.{IfErr-weaker}
use Rattle.flow_world.specs.Happening.{HeldAt}
use Rattle.flow_world.proofs.world.World.runs.Goals as goal

pub returns-clause-breaks : goal.returns-clause-breaks
returns-clause-breaks g c =
    IfErr-weaker c.acts.result _ _
    (λ f t. inr (subst (HeldAt c.args.p c.args.deed c.args.self.now.places.items) c.if-branch.false c.in_ok-holds_already.ensures.held, t))
    c.acts.ensures.breaks
