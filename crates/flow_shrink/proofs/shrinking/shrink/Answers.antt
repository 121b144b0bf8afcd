use Rattle.std.proofs.lemmas.Result.{IfOk-weaker}
use Rattle.flow_worldfile.specs.Worlds.{seen}
use Rattle.flow_shrink.specs.Shrinking.{Stops}
use Rattle.flow_shrink.proofs.Passing.{shrinks_lines}
use Rattle.flow_shrink.proofs.shrinking.shrink.Goals as goal

pub returns-clause-shrinks : goal.returns-clause-shrinks
returns-clause-shrinks g c =
    IfOk-weaker c.shrink_by.result _ _
    (λ x h. shrinks_lines
    (λ w. Stops (g.R.Runner.means (g.R.Runner.kept c.args.runner.now) w) ((goal.Monitor-dyn g (c.args.monitor.vtable, c.args.monitor.value)).begun c.args.monitor.value c.args.limit))
    (seen c.args.world) x h) c.shrink_by.ensures.shrinks
