use Rattle.std.proofs.Common.{arith}
use Rattle.flow_worldfile.proofs.JudgeLemmas.{next_line_read, line_fails}
use Rattle.flow_worldfile.proofs.reading.read_lines.Goals as goal

pub returns-in-Err : goal.returns-in-Err
returns-in-Err c =
    line_fails _ _ _ _ _ c.first_line.result.1.now _ _ c.in-Err.fault c.loop-rest.invariant.so_far c.first_line.ensures.line c.in-Err.ensures

pub loop-rest-preserved : goal.loop-rest-preserved
loop-rest-preserved c = record {
  so_far = next_line_read _ _ _ _ _ _ _ _ c.loop-rest.invariant.so_far c.first_line.ensures.line c.in_default.ensures;
  few = omega arith;
}
