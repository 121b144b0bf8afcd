use Rattle.std.proofs.Common.{◌≡◌}
use Rattle.flow_worldfile.specs.Worlds.{seen}
use Rattle.flow_storm.specs.Storms.{struck_by, storm_draws}
use Rattle.flow_storm.proofs.storm.add_storm.Given as goal

abbrev pub invariant-loop-fault : goal.invariant-loop-fault
invariant-loop-fault l = record {
  struck : seen l.world ≡ struck_by l.seed l.storm.horizon l._fault (seen l.initial.world);
  draws : l.draws ≡ storm_draws l.seed l._fault;
}
