use Rattle.std.proofs.Common.{◌≡◌, map, drop}
use Rattle.std.specs.List.{list_all}
use Rattle.flow_heapstate.specs.State.{actor_kept, parts_kept}
use Rattle.flow_heapstate.specs.Judging.{actor_sound}
use Rattle.flow_heapstate.proofs.judging.actors_sound.Given as goal

abbrev pub invariant-loop-part : goal.invariant-loop-part
invariant-loop-part l =
    list_all (actor_sound (parts_kept l.state)) (map actor_kept (drop l.part-index l.parts))
    ≡ list_all (actor_sound (parts_kept l.state)) (map actor_kept l.parts)
