use Rattle.std.proofs.Common.{◌≤◌, map, take}
use Rattle.std.specs.Io.KnownBytes.{Appends}
use Rattle.flow_base.specs.Bytes.{Grows}
use Rattle.flow_class.specs.View.{class_of}
use Rattle.flow_classprint.specs.ClassText.{all_text, class_text}
use Rattle.flow_classprint.proofs.write.write_all.Given as goal

abbrev pub invariant-loop-class : goal.invariant-loop-class
invariant-loop-class g l = record {
  written : Appends ((g.S.Sink.seen l.initial.out).written) ((g.S.Sink.seen l.out).written) (all_text class_text (map class_of (take l.class-index l.classes)));
  handed : Grows ((g.S.Sink.seen l.initial.out).handed) ((g.S.Sink.seen l.out).handed);
  kept : (g.S.Sink.seen l.initial.out).faults ≤ (g.S.Sink.seen l.out).faults;
}
