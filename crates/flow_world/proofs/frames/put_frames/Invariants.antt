use Rattle.std.proofs.Common.{◌≡◌, ◌≤◌, ◌-◌}
use Rattle.std.specs.List.{flat_map, range_with_len}
use Rattle.flow_world.specs.Around.{Puts, PutsPart}
use Rattle.flow_world.specs.Worlds.{world_seen}
use Rattle.flow_world.specs.Tracing.{process_lines, world_lines}
use Rattle.flow_world.proofs.frames.put_frames.Given as goal

abbrev pub invariant-loop-number : goal.invariant-loop-number
invariant-loop-number g l = record {
  risen : g.L.LineOut.faults l.initial.out ≤ g.L.LineOut.faults l.out;
  same : g.L.LineOut.kept l.out ≡ g.L.LineOut.kept l.initial.out;
  puts : (after : g.row.L.Denot)
      → Puts g.L.LineOut.puts l.out (flat_map (λ n. process_lines (world_seen l.world) (record { 0 = n })) (range_with_len l.number (l.world.outside.net.processes - l.number))) after
      → Puts g.L.LineOut.puts l.initial.out (world_lines (world_seen l.world)) after;
  part : (after : g.row.L.Denot)
      → PutsPart g.L.LineOut.puts l.out (flat_map (λ n. process_lines (world_seen l.world) (record { 0 = n })) (range_with_len l.number (l.world.outside.net.processes - l.number))) after
      → PutsPart g.L.LineOut.puts l.initial.out (world_lines (world_seen l.world)) after;
}
