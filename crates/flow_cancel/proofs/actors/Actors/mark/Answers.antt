use Rattle.std.proofs.Common.{refl}
use Rattle.flow_cancel.proofs.Told.{told_put}
use Rattle.flow_cancel.proofs.actors.Actors.mark.Goals as goal

pub invariant_of-self : goal.invariant_of-self
invariant_of-self c = told_put _ _ c.self.invariant _ c.args.actor.0 c.get_mut.result.now _ c.get_mut.ensures.value refl (λ k. refl)
