use Rattle.std.proofs.Common.{◌≡◌, IsSome, drop}
use Rattle.flow_numbered.specs.Numbered.{thing}
use Rattle.flow_heapstate.proofs.Building.{more}
use Rattle.flow_heapstate.specs.Restoring.{callbacks_more}
use Rattle.flow_heapstate.proofs.restoring.add_callbacks.Given as goal

abbrev pub invariant-loop-held : goal.invariant-loop-held
invariant-loop-held l =
    IsSome (thing l.frames.things l.actor.0)
    × (more callbacks_more l.actor.0 (drop l.held-index l.callbacks) (thing l.frames.things l.actor.0) l.frames
    ≡ more callbacks_more l.actor.0 l.callbacks (thing l.initial.frames.things l.actor.0) l.initial.frames)
