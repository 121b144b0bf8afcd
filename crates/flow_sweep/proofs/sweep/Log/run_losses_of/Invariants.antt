use Rattle.std.proofs.Common.{◌≡◌, ◌≤◌, take, Ok}
use Rattle.flow_base.specs.Bytes.{Grows}
use Rattle.flow_worldfile.specs.Worlds.{seen}
use Rattle.flow_family.specs.Families.{losses_at}
use Rattle.flow_sweep.specs.declared.sweep.Went.TheVariants.{On}
use Rattle.flow_sweep.specs.Sweeps.{GoesThrough, loss_trials_of}
use Rattle.flow_sweep.proofs.sweep.Log.run_losses_of.Given as goal

abbrev pub invariant-loop-time : goal.invariant-loop-time
invariant-loop-time g l = record {
  goes : GoesThrough (g.T.Trials.means (g.T.Trials.kept l.initial.trials)) (g.T.Trials.hearing (g.T.Trials.kept l.initial.trials))
      (loss_trials_of l.down l.seed (seen l.own) (losses_at l.down l.process.0 (take l.time-index l.times)))
      l.initial.self.first l.initial.self.tally l.self.tally (g.S.Sink.seen l.initial.out).written (g.S.Sink.seen l.out).written (Ok On);
  first : l.self.first ≡ l.initial.self.first;
  ready : g.T.Trials.ready l.trials;
  kept : g.T.Trials.kept l.trials ≡ g.T.Trials.kept l.initial.trials;
  handed : Grows ((g.S.Sink.seen l.initial.out).handed) ((g.S.Sink.seen l.out).handed);
  faults : (g.S.Sink.seen l.initial.out).faults ≤ (g.S.Sink.seen l.out).faults;
}
