use Rattle.std.proofs.Common.{ap, ◌∙◌, ◌++◌, ◌≤◌, length, arith}
use Rattle.std.proofs.lemmas.List.{take_all}
use Rattle.flow_tree.specs.Lexing.{place_after}
use Rattle.flow_lex.proofs.Places.{past_step}
use Rattle.flow_lex.proofs.scan.past.Goals as goal

pub loop-b-preserved : goal.loop-b-preserved
loop-b-preserved c = record {
  place = past_step c.args.at c.loop-b.place c.past_byte-place.result c.front-bytes.result.now c.loop-b.b-index c.loop-b-test.true c.loop-b.invariant.place c.past_byte-place.ensures.place;
  line = omega (arith, c.loop-b.invariant.line, c.past_byte-place.ensures.line);
  column = omega (arith, c.loop-b.invariant.column, c.past_byte-place.ensures.column);
  byte = omega (arith, c.loop-b.invariant.byte, c.past_byte-place.ensures.byte);
}

pub returns : goal.returns
returns c = λ before e.
    let le : length c.front-bytes.result.now ≤ c.loop-b.b-index = omega (arith, c.loop-b-test.false) in
    c.loop-b.invariant.place before e ∙ ap (λ l. place_after (before ++ l)) (take_all c.loop-b.b-index c.front-bytes.result.now le ∙ c.front-bytes.ensures)
