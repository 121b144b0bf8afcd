use Rattle.std.proofs.Common.{arith, append_assoc}
use Rattle.flow_trace.proofs.Printing.{spelled_by_run, spelled_plain}
use Rattle.flow_trace.proofs.quote.quote.Goals as goal

pub loop-run-preserved : goal.loop-run-preserved
loop-run-preserved c = grind (arith, append_assoc, spelled_by_run c.loop-run.rest.now c.in-Some.run')

pub returns : goal.returns
returns c = grind (arith, append_assoc, spelled_plain c.loop-run.rest.now)
