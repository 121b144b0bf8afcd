use Rattle.std.proofs.Common.{map, sym, ap, ◌∙◌}
use Rattle.flow_worldfile.specs.Worlds.{timed}
use Rattle.flow_parts_tests.proofs.Trials.{one_line, throws_by}
use Rattle.flow_parts_tests.proofs.shrinks.TrialRunner.run.Goals as goal

pub returns-then-throws-clause-stopped : goal.returns-then-throws-clause-stopped
returns-then-throws-clause-stopped g c =
    let t = c.args.self.now in
    one_line ((goal.Monitor-dyn g (c.args.monitor.vtable, c.args.monitor.value)).ear c.args.monitor.value)
    c.tell-told.result.0
    (throws_by t.first t.second t.third (map timed c.args.world.now.script.items))
    (ap (λ s. throws_by t.first t.second t.third (map timed s)) (sym c.deref.ensures.value) ∙ sym c.throws.ensures ∙ c.if-throws.true)
    c.tell-told.ensures.said
