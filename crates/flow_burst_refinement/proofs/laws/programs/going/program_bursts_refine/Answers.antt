use Rattle.flow_burst_refinement.proofs.Programs.Goes.{program_goes, program_follows}
use Rattle.flow_burst_refinement.proofs.laws.programs.going.program_bursts_refine.Goals as goal

pub returns-clause-tasks : goal.returns-clause-tasks
returns-clause-tasks g c = program_goes g.H.Host.serves g.H.Host.shows g.H.Host.wrote

pub returns-clause-bursts : goal.returns-clause-bursts
returns-clause-bursts g c = program_follows g.H.Host.serves g.H.Host.shows g.H.Host.wrote
