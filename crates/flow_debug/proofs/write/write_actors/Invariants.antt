use Rattle.std.proofs.Common.{◌≡◌, ◌≤◌, ℕ, List, ◌++◌, map}
use Rattle.std.specs.Io.KnownBytes.{Appends}
use Rattle.flow_base.specs.Bytes.{Grows}
use Rattle.flow_class.specs.View.{class_of}
use Rattle.flow_debug.specs.Waits.{waits_seen}
use Rattle.flow_debug.proofs.Writing.{lines_from}
use Rattle.flow_debug.proofs.write.write_actors.Given as goal

abbrev pub invariant-loop-frame : goal.invariant-loop-frame
invariant-loop-frame g l = record {
  text : List ℕ;
  written : Appends ((g.S.Sink.seen l.initial.out).written) ((g.S.Sink.seen l.out).written) text;
  ahead : text ++ lines_from (waits_seen l.waits) (map class_of l.classes) l.process.0 l.frame-index l.frames
      ≡ lines_from (waits_seen l.waits) (map class_of l.classes) l.process.0 0 l.frames;
  handed : Grows ((g.S.Sink.seen l.initial.out).handed) ((g.S.Sink.seen l.out).handed);
  kept : (g.S.Sink.seen l.initial.out).faults ≤ (g.S.Sink.seen l.out).faults;
}
