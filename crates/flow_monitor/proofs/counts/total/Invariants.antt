use Rattle.std.proofs.Common.{◌≡◌, ◌≤◌, ◌*◌, ◌-◌, ◌^◌, take}
use Rattle.std.specs.List.{sum}
use Rattle.flow_monitor.proofs.counts.total.Given as goal

abbrev pub invariant-loop-count : goal.invariant-loop-count
invariant-loop-count l = record {
  is : l.total ≡ sum (take l.count-index l.counts);
  bound : l.total ≤ (2 ^ 64 - 1) * l.count-index;
}
