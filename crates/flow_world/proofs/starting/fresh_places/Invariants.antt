use Rattle.std.proofs.Common.{◌≡◌, length}
use Rattle.flow_world.specs.Starting.{AreFresh}
use Rattle.flow_world.proofs.starting.fresh_places.Given as goal

abbrev pub invariant-loop-number : goal.invariant-loop-number
invariant-loop-number l = record {
  count : length l.places.items ≡ l.number;
  fresh : AreFresh l.processes 0 l.places.items;
}
