use Rattle.std.proofs.Common.{◌≡◌, ◌≤◌, drop}
use Rattle.flow_world.specs.Around.{Puts, PutsPart}
use Rattle.flow_world.specs.Tracing.{frames_lines}
use Rattle.flow_world.proofs.frames.put_each.Given as goal

abbrev pub invariant-loop-frame : goal.invariant-loop-frame
invariant-loop-frame g l = record {
  risen : g.L.LineOut.faults l.initial.out ≤ g.L.LineOut.faults l.out;
  same : g.L.LineOut.kept l.out ≡ g.L.LineOut.kept l.initial.out;
  puts : let classes = l.world.code.program.classes.items in
      (after : g.row.L.Denot) → Puts g.L.LineOut.puts l.out (frames_lines classes l.p (drop l.frame-index l.frames) l.rest) after
      → Puts g.L.LineOut.puts l.initial.out (frames_lines classes l.p l.frames l.callbacks) after;
  part : let classes = l.world.code.program.classes.items in
      (after : g.row.L.Denot) → PutsPart g.L.LineOut.puts l.out (frames_lines classes l.p (drop l.frame-index l.frames) l.rest) after
      → PutsPart g.L.LineOut.puts l.initial.out (frames_lines classes l.p l.frames l.callbacks) after;
}
