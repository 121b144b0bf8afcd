use Rattle.flow_world.specs.FaultedLines.{tells}
use Rattle.flow_world.specs.Skipping.{unkept}
use Rattle.flow_restore_laws.proofs.States.Onwards.{classes_rest_alike, programs_rest_alike}
use Rattle.flow_restore_laws.proofs.laws.states.skipped.skipped_worlds_rest_alike.Goals as goal

pub returns-clause-classes : goal.returns-clause-classes
returns-clause-classes c = classes_rest_alike (tells unkept)

pub returns-clause-programs : goal.returns-clause-programs
returns-clause-programs c = programs_rest_alike (tells unkept)
