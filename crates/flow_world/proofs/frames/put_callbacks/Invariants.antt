use Rattle.std.proofs.Common.{◌≡◌, ◌≤◌, map, drop}
use Rattle.flow_world.specs.Around.{Puts, PutsPart}
use Rattle.flow_world.specs.Tracing.{callback_line}
use Rattle.flow_world.proofs.frames.put_callbacks.Given as goal

abbrev pub invariant-loop-view : goal.invariant-loop-view
invariant-loop-view g l = record {
  risen : g.L.LineOut.faults l.initial.out ≤ g.L.LineOut.faults l.out;
  same : g.L.LineOut.kept l.out ≡ g.L.LineOut.kept l.initial.out;
  puts : (after : g.row.L.Denot) → Puts g.L.LineOut.puts l.out (map (callback_line l.p) (drop l.view-index l.callbacks)) after
      → Puts g.L.LineOut.puts l.initial.out (map (callback_line l.p) l.callbacks) after;
  part : (after : g.row.L.Denot) → PutsPart g.L.LineOut.puts l.out (map (callback_line l.p) (drop l.view-index l.callbacks)) after
      → PutsPart g.L.LineOut.puts l.initial.out (map (callback_line l.p) l.callbacks) after;
}
