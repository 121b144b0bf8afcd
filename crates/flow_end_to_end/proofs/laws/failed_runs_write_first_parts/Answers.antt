use Rattle.flow_end_to_end.proofs.Cut.Cuts.{classes_written, program_written}
use Rattle.flow_end_to_end.proofs.laws.failed_runs_write_first_parts.Goals as goal

pub returns-clause-classes : goal.returns-clause-classes
returns-clause-classes c = classes_written

pub returns-clause-programs : goal.returns-clause-programs
returns-clause-programs c = program_written
