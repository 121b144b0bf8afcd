use Rattle.std.proofs.Common.{◌≡◌, refl, arith}
use Rattle.flow_heapstate.proofs.Filling.{stands_there, begins}
use Rattle.flow_heapstate.proofs.restoring.begin.Goals as goal

pub stand-requires : goal.stand-requires
stand-requires c =
    let there = stands_there c.args.part _ _ _ c.in_ok-actor.actor.0 c.args.places c.requires.above c.skip_actors.ensures.skipped c.in_ok-actor.ensures.number c.in_ok-actor.ensures.started
    c.skip_actors.ensures.rising in
    rw (c.frames_mut.ensures.value, there) refl

pub returns : goal.returns
returns c =
    let held : c.deref.result.now ≡ c.args.part.callbacks.items = grind arith in
    begins c.args.part _ _ _ c.in_ok-actor.actor.0 c.args.places c.requires.above c.skip_actors.ensures.skipped c.in_ok-actor.ensures.number c.in_ok-actor.ensures.started c.skip_actors.ensures.rising
    _ c.requires.places
    (rw (c.frames_mut.ensures.value, held) at c.in_ok-stand.ensures)
