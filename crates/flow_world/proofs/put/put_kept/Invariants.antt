use Rattle.std.proofs.Common.{◌≡◌, ◌≤◌, map, drop}
use Rattle.flow_meaning.specs.World.{kept_line}
use Rattle.flow_world.specs.Around.{Puts, PutsPart}
use Rattle.flow_world.proofs.put.put_kept.Given as goal

abbrev pub invariant-loop-kept : goal.invariant-loop-kept
invariant-loop-kept g l = record {
  risen : g.L.LineOut.faults l.initial.out ≤ g.L.LineOut.faults l.out;
  same : g.L.LineOut.kept l.out ≡ g.L.LineOut.kept l.initial.out;
  puts : (after : g.row.L.Denot) → Puts g.L.LineOut.puts l.out (map kept_line (drop l.kept-index l.fates)) after
      → Puts g.L.LineOut.puts l.initial.out (map kept_line l.fates) after;
  part : (after : g.row.L.Denot) → PutsPart g.L.LineOut.puts l.out (map kept_line (drop l.kept-index l.fates)) after
      → PutsPart g.L.LineOut.puts l.initial.out (map kept_line l.fates) after;
}
