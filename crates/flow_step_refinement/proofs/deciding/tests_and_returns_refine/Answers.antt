use Rattle.flow_step_refinement.proofs.Decisions.{test_step, return_step}
use Rattle.flow_step_refinement.proofs.deciding.tests_and_returns_refine.Goals as goal

pub returns-clause-test : goal.returns-clause-test
returns-clause-test c = test_step

pub returns-clause-ends : goal.returns-clause-ends
returns-clause-ends c = return_step
