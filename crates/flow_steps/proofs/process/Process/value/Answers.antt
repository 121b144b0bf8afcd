use Rattle.flow_code.specs.Resolved.View.{node_of}
use Rattle.flow_steps.proofs.Sights.{value_seen}
use Rattle.flow_steps.proofs.process.Process.value.Goals as goal

pub returns-clause-gives : goal.returns-clause-gives
returns-clause-gives c =
    value_seen _ _ (node_of c.args.expr.now) c.args.self.now.left c.evaluate_resolved-value.new.turns.left _ c.sight-sight.ensures c.evaluate_resolved-value.ensures.gives
