use Rattle.std.proofs.Common.{ℕ, List, [], ◌≤◌}
use Rattle.std.specs.Io.KnownBytes.{Appends}
use Rattle.flow_base.specs.Bytes.{Grows}
use Rattle.flow_class.specs.View.{block_of}
use Rattle.flow_classprint.specs.ClassText.{block_text}
use Rattle.flow_classprint.proofs.Steps.{Ahead}
use Rattle.flow_classprint.proofs.write.write_blocks.Given as goal

abbrev pub invariant-loop-block : goal.invariant-loop-block
invariant-loop-block g l = record {
  text : List ℕ;
  written : Appends ((g.S.Sink.seen l.initial.out).written) ((g.S.Sink.seen l.out).written) text;
  ahead : Ahead block_text block_of l.blocks 0 l.number l.block-index [] text;
  handed : Grows ((g.S.Sink.seen l.initial.out).handed) ((g.S.Sink.seen l.out).handed);
  kept : (g.S.Sink.seen l.initial.out).faults ≤ (g.S.Sink.seen l.out).faults;
}
