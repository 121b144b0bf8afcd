use Rattle.flow_step_refinement.proofs.Effects.Entering.{actor_holds}
use Rattle.flow_step_refinement.proofs.Effects.Starts.{call_starts, void_starts}
use Rattle.flow_step_refinement.proofs.laws.effects.starting.actor_starts_refine.Goals as goal

pub returns-clause-holds : goal.returns-clause-holds
returns-clause-holds c = actor_holds

pub returns-clause-call : goal.returns-clause-call
returns-clause-call c = call_starts

pub returns-clause-void : goal.returns-clause-void
returns-clause-void c = void_starts
