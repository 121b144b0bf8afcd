use Rattle.std.proofs.Common.{refl, sym, subst}
use Rattle.flow_worldfile.specs.Worlds.{World}
use Rattle.flow_shrink.specs.Shrinking.{Stops}
use Rattle.flow_shrink.specs.Editing.{made, refused}
use Rattle.flow_shrink.proofs.Passing.{not_both}
use Rattle.flow_shrink.proofs.shrinking.try_place.Goals as goal

pub returns-then-stopped-clause-tried : goal.returns-then-stopped-clause-tried
returns-then-stopped-clause-tried g c = made c.in_ok-smaller.ensures.edited (c.in_ok-stopped.ensures.stopped.0 c.if-stopped.true)

pub returns-clause-tried : goal.returns-clause-tried
returns-clause-tried g c =
    refused refl
    (λ s. not_both (c.in_ok-stopped.ensures.stopped.1
    (subst (λ (x : World). Stops (g.R.Runner.means (g.R.Runner.kept c.args.runner.now) x)
    ((goal.Monitor-dyn g (c.args.monitor.vtable, c.args.monitor.value)).begun c.args.monitor.value c.args.limit)) (sym c.in_ok-smaller.ensures.edited) s)) c.if-stopped.false)
