use Rattle.flow_operation_refinement.proofs.Gone.{gone_on, values_left, locals_dropped, went_to, pass_began, value_bound}
use Rattle.flow_operation_refinement.proofs.going.moves_refine.Goals as goal

pub returns-clause-gone : goal.returns-clause-gone
returns-clause-gone c = gone_on

pub returns-clause-values : goal.returns-clause-values
returns-clause-values c = values_left

pub returns-clause-locals : goal.returns-clause-locals
returns-clause-locals c = locals_dropped

pub returns-clause-block : goal.returns-clause-block
returns-clause-block c = went_to

pub returns-clause-pass : goal.returns-clause-pass
returns-clause-pass c = pass_began

pub returns-clause-bound : goal.returns-clause-bound
returns-clause-bound c = value_bound
