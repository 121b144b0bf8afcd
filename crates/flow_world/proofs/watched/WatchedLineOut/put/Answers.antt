use Rattle.std.proofs.Common.{sym, ap, ap₂, ◌∙◌}
use Rattle.flow_monitor.specs.Ears.{names}
use Rattle.flow_monitor.proofs.Naming.{names_map}
use Rattle.flow_world.proofs.Watching.{put_within}
use Rattle.flow_world.proofs.watched.WatchedLineOut.put.Goals as goal

pub invariant_of-self-then-is_heard : goal.invariant_of-self-then-is_heard
invariant_of-self-then-is_heard g c = record {
  within = put_within _ _ _ _ _ _ (sym c.is_heard.ensures ∙ c.if-is_heard.true) c.hear-stop.ensures.ears c.hear-stop.ensures.stop c.first_of-self.ensures c.args.self.now.within;
}

pub returns-then-is_heard-clause-kept : goal.returns-then-is_heard-clause-kept
returns-then-is_heard-clause-kept g c =
    ap₂ (λ k n. (c.args.self.now.panel.ghost_name, c.args.self.now.out.ghost_name, k, n)) c.put.ensures.kept (ap names c.hear-stop.ensures.ears ∙ names_map _ _)
