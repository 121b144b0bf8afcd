use Rattle.std.proofs.Common.{◌≡◌, map, drop}
use Rattle.flow_heapstate.specs.State.{actor_kept}
use Rattle.flow_heapstate.specs.Sound.{at_number}
use Rattle.flow_heapstate.proofs.judging.actor_at.Given as goal

abbrev pub invariant-loop-part : goal.invariant-loop-part
invariant-loop-part l =
    at_number (λ c. c.actor) (map actor_kept (drop l.part-index l.state.actors.items)) l.actor.0
    ≡ at_number (λ c. c.actor) (map actor_kept l.state.actors.items) l.actor.0
