use Rattle.flow_step_refinement.proofs.Choices.{choice_begins, operand_step, wait_step}
use Rattle.flow_step_refinement.proofs.choosing.choices_refine.Goals as goal

pub returns-clause-begins : goal.returns-clause-begins
returns-clause-begins c = choice_begins

pub returns-clause-operand : goal.returns-clause-operand
returns-clause-operand c = operand_step

pub returns-clause-wait : goal.returns-clause-wait
returns-clause-wait c = wait_step
