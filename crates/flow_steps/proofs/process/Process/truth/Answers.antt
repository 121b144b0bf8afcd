use Rattle.flow_code.specs.Resolved.View.{node_of}
use Rattle.flow_steps.proofs.Sights.{truth_seen}
use Rattle.flow_steps.proofs.process.Process.truth.Goals as goal

pub returns-clause-gives : goal.returns-clause-gives
returns-clause-gives c =
    truth_seen _ _ (node_of c.args.expr.now) c.args.self.now.left c.evaluate_truth-value.new.turns.left _ c.sight-sight.ensures c.evaluate_truth-value.ensures.gives
