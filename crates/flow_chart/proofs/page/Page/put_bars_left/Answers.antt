use Rattle.std.proofs.Common.{arith}
use Rattle.flow_chart.proofs.Gathered.{bars_next}
use Rattle.flow_chart.proofs.page.Page.put_bars_left.Goals as goal

pub loop-process-preserved : goal.loop-process-preserved
loop-process-preserved c =
    bars_next c.args.row c.args.uptimes.now.since c.args.processes c.loop-process.process c.still.result c.loop-process.self c.maybe_bar.new.self _
    (omega (arith, c.loop-process-test.true)) c.still.ensures c.in_ok-maybe_bar.ensures c.loop-process.invariant
