use Rattle.flow_heap_refinement.proofs.Evaluation.Names.{eval_names, all_names, call_names_kept}
use Rattle.flow_heap_refinement.proofs.laws.evaluation.evaluation_makes_no_reference.Goals as goal

pub returns-clause-value : goal.returns-clause-value
returns-clause-value c = eval_names

pub returns-clause-values : goal.returns-clause-values
returns-clause-values c = all_names

pub returns-clause-call : goal.returns-clause-call
returns-clause-call c = call_names_kept
