use Rattle.flow_exprs.proofs.Outcomes.{one_tree}
use Rattle.flow_exprs.proofs.TypeLaws.{one_type}
use Rattle.flow_exprs.proofs.laws.derives_one.Goals as goal

pub returns : goal.returns
returns c = record { expr = one_tree; ty = one_type }
