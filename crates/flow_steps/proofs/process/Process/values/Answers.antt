use Rattle.flow_code.specs.Resolved.View.{nodes_of}
use Rattle.flow_steps.proofs.Sights.{values_seen}
use Rattle.flow_steps.proofs.process.Process.values.Goals as goal

pub returns-clause-gives : goal.returns-clause-gives
returns-clause-gives c =
    values_seen _ _ (nodes_of c.args.args.now) c.args.self.now.left c.evaluate_args-values.new.turns.left _ c.sight-sight.ensures c.evaluate_args-values.ensures.gives
