use Rattle.flow_heap_refinement.proofs.Example.{waiting_rests}
use Rattle.flow_heap_refinement.proofs.Starting.{idle_rests, vanished_rests}
use Rattle.flow_heap_refinement.proofs.steps.fresh_processes_rest.Goals as goal

pub returns-clause-idle : goal.returns-clause-idle
returns-clause-idle c = idle_rests

pub returns-clause-vanished : goal.returns-clause-vanished
returns-clause-vanished c = vanished_rests

pub returns-clause-example : goal.returns-clause-example
returns-clause-example c = waiting_rests
