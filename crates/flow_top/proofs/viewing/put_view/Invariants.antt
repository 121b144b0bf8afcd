use Rattle.std.proofs.Common.{◌≡◌, ◌≤◌, ℕ, List, ◌++◌}
use Rattle.std.specs.Io.KnownBytes.{Appends}
use Rattle.flow_base.specs.Bytes.{Grows}
use Rattle.flow_debug.specs.Waits.{waits_seen}
use Rattle.flow_world.specs.Worlds.{world_seen}
use Rattle.flow_view_laws.specs.Skipped.{CanBeTold}
use Rattle.flow_top.proofs.Places.{lines_from}
use Rattle.flow_top.proofs.viewing.put_view.Given as goal

abbrev pub invariant-loop-number : goal.invariant-loop-number
invariant-loop-number g l = record {
  written : CanBeTold (world_seen l.world) → (text : List ℕ) × Appends ((g.S.Sink.seen l.initial.out).written) ((g.S.Sink.seen l.out).written) text
      × (text ++ lines_from (waits_seen l.waits) (world_seen l.world) l.number ≡ lines_from (waits_seen l.waits) (world_seen l.world) 0);
  handed : Grows ((g.S.Sink.seen l.initial.out).handed) ((g.S.Sink.seen l.out).handed);
  kept : (g.S.Sink.seen l.initial.out).faults ≤ (g.S.Sink.seen l.out).faults;
}
