use Rattle.flow_progress.specs.Written.{heads}
use Rattle.flow_progress.proofs.KeptClasses.{class_rules}
use Rattle.flow_progress.proofs.ActorsFit.{actors_keep}
use Rattle.flow_progress.proofs.Places.{placed}
use Rattle.flow_progress.proofs.StepsKept.{steps_keep}
use Rattle.flow_progress.proofs.laws.steps_preserve_fitting.Goals as goal

pub returns-clause-actors : goal.returns-clause-actors
returns-clause-actors c = λ r valid written functions. actors_keep r (heads r) (class_rules r valid written functions)

pub returns-clause-placed : goal.returns-clause-placed
returns-clause-placed c = λ r valid written functions. placed r (heads r) (class_rules r valid written functions)

pub returns-clause-steps : goal.returns-clause-steps
returns-clause-steps c = λ r valid written functions. steps_keep r valid (heads r) (class_rules r valid written functions)
