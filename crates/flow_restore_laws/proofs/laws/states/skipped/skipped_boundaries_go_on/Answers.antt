use Rattle.flow_world.specs.FaultedLines.{tells}
use Rattle.flow_world.specs.Skipping.{unkept}
use Rattle.flow_restore_laws.proofs.States.Onwards.{classes_go_onward, programs_go_onward}
use Rattle.flow_restore_laws.proofs.laws.states.skipped.skipped_boundaries_go_on.Goals as goal

pub returns-clause-classes : goal.returns-clause-classes
returns-clause-classes c = classes_go_onward (tells unkept)

pub returns-clause-programs : goal.returns-clause-programs
returns-clause-programs c = programs_go_onward (tells unkept)
