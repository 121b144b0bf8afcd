use Rattle.std.proofs.Common.{get_or, arith}
use Rattle.flow_simplify.proofs.Weights.{counted_next, weight_most}
use Rattle.flow_simplify.proofs.simpler.uncommon.Goals as goal

pub loop-word-preserved : goal.loop-word-preserved
loop-word-preserved c =
    let was = c.loop-word.invariant in
    let least = weight_most c.args.common (get_or c.args.words.now c.loop-word.word-index 0) in
    record {
      count = counted_next c.args.common c.args.words.now c.loop-word.word-index _ _ c.loop-word-test.true was.count c.weight-count.ensures;
      most = omega (arith, was.most, least, c.weight-count.ensures);
    }
