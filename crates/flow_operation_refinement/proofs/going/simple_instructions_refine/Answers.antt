use Rattle.flow_operation_refinement.proofs.Carrying.{noted_follows, error_thrown, ran_out, drop_step, goto_step, pass_step}
use Rattle.flow_operation_refinement.proofs.Evaluations.{throw_step}
use Rattle.flow_operation_refinement.proofs.going.simple_instructions_refine.Goals as goal

pub returns-clause-drop : goal.returns-clause-drop
returns-clause-drop c = drop_step

pub returns-clause-goto : goal.returns-clause-goto
returns-clause-goto c = goto_step

pub returns-clause-pass : goal.returns-clause-pass
returns-clause-pass c = pass_step

pub returns-clause-noted : goal.returns-clause-noted
returns-clause-noted c = noted_follows

pub returns-clause-thrown : goal.returns-clause-thrown
returns-clause-thrown c = error_thrown

pub returns-clause-spent : goal.returns-clause-spent
returns-clause-spent c = ran_out

pub returns-clause-throw : goal.returns-clause-throw
returns-clause-throw c = throw_step
