use Rattle.std.proofs.Common.{◌≤◌, map, take}
use Rattle.std.specs.Io.KnownBytes.{Appends}
use Rattle.flow_base.specs.Bytes.{Grows}
use Rattle.flow_tree.specs.DeclView.{decl_of}
use Rattle.flow_tree.specs.Canon.{decls_text}
use Rattle.flow_show.proofs.show.show_lines.Given as goal

abbrev pub invariant-loop-decl : goal.invariant-loop-decl
invariant-loop-decl g l = record {
  written : Appends ((g.S.Sink.seen l.initial.out).written) ((g.S.Sink.seen l.out).written) (decls_text (map decl_of (take l.decl-index l.program.decls.items)));
  handed : Grows ((g.S.Sink.seen l.initial.out).handed) ((g.S.Sink.seen l.out).handed);
  kept : (g.S.Sink.seen l.initial.out).faults ≤ (g.S.Sink.seen l.out).faults;
}
