use Rattle.flow_step_refinement.proofs.Decodes.{begins_in_code, in_code_of, instruction_there, end_there, group_there, wait_there, aim_there}
use Rattle.flow_step_refinement.proofs.Froms.{instruction_from}
use Rattle.flow_step_refinement.proofs.Named.{effect_there}
use Rattle.flow_step_refinement.proofs.Matches.{effect_aims, branch_coded}
use Rattle.flow_step_refinement.proofs.Stays.{stays_in_code, in_class_stays}
use Rattle.flow_step_refinement.proofs.decoding.code_matches_frames.Goals as goal

pub returns-clause-begins : goal.returns-clause-begins
returns-clause-begins c = begins_in_code

pub returns-clause-stays : goal.returns-clause-stays
returns-clause-stays c = stays_in_code

pub returns-clause-instruction : goal.returns-clause-instruction
returns-clause-instruction c = instruction_there

pub returns-clause-end : goal.returns-clause-end
returns-clause-end c = end_there

pub returns-clause-group : goal.returns-clause-group
returns-clause-group c = group_there

pub returns-clause-wait : goal.returns-clause-wait
returns-clause-wait c = wait_there

pub returns-clause-aim : goal.returns-clause-aim
returns-clause-aim c = aim_there

pub returns-clause-from : goal.returns-clause-from
returns-clause-from c = instruction_from

pub returns-clause-effect : goal.returns-clause-effect
returns-clause-effect c = effect_there

pub returns-clause-stored : goal.returns-clause-stored
returns-clause-stored c = effect_aims

pub returns-clause-branch : goal.returns-clause-branch
returns-clause-branch c = branch_coded

pub returns-clause-class : goal.returns-clause-class
returns-clause-class c = in_class_stays

pub returns-clause-code : goal.returns-clause-code
returns-clause-code c = in_code_of
