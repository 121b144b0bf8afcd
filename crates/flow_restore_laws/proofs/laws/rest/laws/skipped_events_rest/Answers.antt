use Rattle.flow_world.specs.FaultedLines.{tells}
use Rattle.flow_world.specs.Skipping.{unkept}
use Rattle.flow_restore_laws.proofs.Rest.Worlds.{classes_rest, programs_rest}
use Rattle.flow_restore_laws.proofs.laws.rest.laws.skipped_events_rest.Goals as goal

pub returns-clause-classes : goal.returns-clause-classes
returns-clause-classes c = classes_rest (tells unkept)

pub returns-clause-programs : goal.returns-clause-programs
returns-clause-programs c = programs_rest (tells unkept)
