use Rattle.std.proofs.Common.{◌≡◌, map, drop}
use Rattle.flow_heapstate.specs.State.{actor_kept}
use Rattle.flow_heapstate.specs.Judging.{rise_to}
use Rattle.flow_heapstate.proofs.judging.actors_rise.Given as goal

abbrev pub invariant-loop-part : goal.invariant-loop-part
invariant-loop-part l =
    rise_to l.low (map (λ a. a.actor) (map actor_kept (drop l.part-index l.parts))) l.most
    ≡ rise_to 0 (map (λ a. a.actor) (map actor_kept l.parts)) l.most
