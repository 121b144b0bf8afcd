use Rattle.std.proofs.Common.{◌≡◌, ◌≤◌, Ok}
use Rattle.flow_base.specs.Bytes.{Grows}
use Rattle.flow_worldfile.specs.Worlds.{seen}
use Rattle.flow_sweep.specs.declared.sweep.Went.TheVariants.{On}
use Rattle.flow_sweep.specs.Sweeps.{Goes, OfSeeds, BeginsSweep}
use Rattle.flow_sweep.proofs.sweep.Log.run_all.Given as goal

abbrev pub invariant-loop-further : goal.invariant-loop-further
invariant-loop-further g l = record {
  goes : Goes (OfSeeds (g.T.Trials.means (g.T.Trials.kept l.initial.trials)) (g.T.Trials.hearing (g.T.Trials.kept l.initial.trials)) l.family (seen l.world) l.further)
      (BeginsSweep (g.T.Trials.means (g.T.Trials.kept l.initial.trials)) (g.T.Trials.hearing (g.T.Trials.kept l.initial.trials)) l.family (seen l.world))
      l.initial.self.first l.initial.self.tally l.self.tally (g.S.Sink.seen l.initial.out).written (g.S.Sink.seen l.out).written (Ok On);
  first : l.self.first ≡ l.initial.self.first;
  ready : g.T.Trials.ready l.trials;
  kept : g.T.Trials.kept l.trials ≡ g.T.Trials.kept l.initial.trials;
  handed : Grows ((g.S.Sink.seen l.initial.out).handed) ((g.S.Sink.seen l.out).handed);
  faults : (g.S.Sink.seen l.initial.out).faults ≤ (g.S.Sink.seen l.out).faults;
}
