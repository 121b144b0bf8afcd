use Rattle.std.proofs.Common.{◌≡◌, ◌≤◌, ℕ, List, ◌++◌, drop}
use Rattle.std.specs.Io.KnownBytes.{Appends}
use Rattle.flow_explain.specs.Words.{in_words}
use Rattle.flow_explain.proofs.words_out.put_lines.Given as goal

abbrev pub invariant-loop-line : goal.invariant-loop-line
invariant-loop-line g l = record {
  text : List ℕ;
  written : Appends (g.S.Sink.seen l.initial.words.out.now).written (g.S.Sink.seen l.words.out.now).written text;
  ahead : text ++ in_words l.words.texts.now l.words.told (drop l.line-index l.lines)
      ≡ in_words l.initial.words.texts.now l.initial.words.told l.lines;
  texts : l.words.texts.now ≡ l.initial.words.texts.now;
  kept : (g.S.Sink.seen l.initial.words.out.now).faults ≤ (g.S.Sink.seen l.words.out.now).faults;
  name : l.words.out.ghost_name ≡ l.initial.words.out.ghost_name;
}
