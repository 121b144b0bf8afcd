use Rattle.std.proofs.Common.{◌+◌, ◌++◌, drop, ap, ◌∙◌, arith}
use Rattle.std.proofs.KnownBytes.{Appends-trans}
use Rattle.flow_explain.specs.Words.{line_in_words, in_words}
use Rattle.flow_explain.proofs.Putting.{part_behind, next_line}
use Rattle.flow_explain.proofs.words_out.put_lines.Goals as goal

pub returns-in_err-put-clause-part : goal.returns-in_err-put-clause-part
returns-in_err-put-clause-part g c =
    let l = c.loop-line.invariant in
    let texts = c.loop-line.words.texts.now in
    let told = c.loop-line.words.told in
    let x = c.line-item.result in
    part_behind _ _ _ l.text (line_in_words texts told x) _ _
    (next_line texts c.args.lines.now c.loop-line.line-index x told l.text _ c.loop-line-test.true c.line-item.is l.ahead)
    l.written c.put.ensures.puts.1.part

pub loop-line-preserved : goal.loop-line-preserved
loop-line-preserved g c =
    let l = c.loop-line.invariant in
    let texts = c.loop-line.words.texts.now in
    let told = c.loop-line.words.told in
    let x = c.line-item.result in
    let text = l.text ++ line_in_words texts told x in
    let rest = drop (c.loop-line.line-index + 1) c.args.lines.now in record {
      text = text;
      written = Appends-trans _ _ _ l.text (line_in_words texts told x) l.written c.in_ok-put.ensures.puts.1.whole;
      ahead =
          ap (λ u. text ++ in_words u c.put.new.self.told rest) c.put.ensures.puts.1.texts
          ∙ ap (λ s. text ++ in_words texts s rest) c.in_ok-put.ensures.puts.1.heard
          ∙ next_line texts c.args.lines.now c.loop-line.line-index x told l.text _ c.loop-line-test.true c.line-item.is l.ahead;
      texts = c.put.ensures.puts.1.texts ∙ l.texts;
      kept = omega (arith, l.kept, c.put.ensures.cause.kept);
      name = ap (λ k. k.0) c.put.ensures.kept ∙ l.name;
    }
