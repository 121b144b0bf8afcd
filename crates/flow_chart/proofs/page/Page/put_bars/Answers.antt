use Rattle.std.proofs.Common.{rules}
use Rattle.flow_chart.specs.Elements.{element_bytes}
use Rattle.flow_chart.specs.Picture.{bar_element}
use Rattle.flow_chart.proofs.Gathered.{mapped_next}
use Rattle.flow_chart.proofs.page.Page.put_bars.Goals as goal

pub loop-bar-preserved : goal.loop-bar-preserved
loop-bar-preserved c =
    mapped_next element_bytes bar_element c.args.bars.now c.loop-bar.bar-index _ c.loop-bar.self c.bar.new.self _ c.loop-bar-test.true (search rules)
    c.in_ok-bar.ensures c.loop-bar.invariant
