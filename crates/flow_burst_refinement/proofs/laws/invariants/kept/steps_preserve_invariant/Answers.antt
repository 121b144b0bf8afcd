use Rattle.flow_burst_refinement.proofs.Invariants.Keeping.{step_keeps, lines_keep, among_kept}
use Rattle.flow_burst_refinement.proofs.laws.invariants.kept.steps_preserve_invariant.Goals as goal

pub returns-clause-steps : goal.returns-clause-steps
returns-clause-steps c = step_keeps

pub returns-clause-lines : goal.returns-clause-lines
returns-clause-lines c = lines_keep

pub returns-clause-among : goal.returns-clause-among
returns-clause-among c = among_kept
