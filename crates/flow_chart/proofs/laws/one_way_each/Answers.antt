use Rattle.flow_chart.proofs.Ways.{one_arrow, one_stub}
use Rattle.flow_chart.proofs.laws.one_way_each.Goals as goal

pub returns-clause-arrow : goal.returns-clause-arrow
returns-clause-arrow c = one_arrow

pub returns-clause-stub : goal.returns-clause-stub
returns-clause-stub c = one_stub
