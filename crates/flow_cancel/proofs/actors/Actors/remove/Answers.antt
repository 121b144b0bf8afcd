use Rattle.std.proofs.Common.{subst}
use Rattle.flow_cancel.proofs.Told.{told_removed}
use Rattle.flow_cancel.proofs.actors.Actors.remove.Goals as goal

pub invariant_of-self : goal.invariant_of-self
invariant_of-self c = rw c.remove-note.ensures.rest (told_removed _ _ c.self.invariant _ c.remove-note.ensures.rising _ c.args.actor.0 _ c.remove-note.ensures.value c.disown.ensures)
