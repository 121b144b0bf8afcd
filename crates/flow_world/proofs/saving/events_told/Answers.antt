use Rattle.std.proofs.Common.{◌≡◌, [], map, sym, subst, arith}
use Rattle.std.proofs.lemmas.Grind.{common_steps}
use Rattle.flow_timers.specs.Moments.{pending_of}
use Rattle.flow_world.specs.Saving.{EventsTold}
use Rattle.flow_world.proofs.Told.{events_all}
use Rattle.flow_world.proofs.saving.events_told.Goals as goal

pub returns : goal.returns
returns c =
    let none : c.loop-time.time-iterator.rest.items ≡ [] = grind (arith, common_steps) in
    events_all c.args.on_way.now c.args.timers.now.pending c.loop-time.told.items
    (λ xs told. c.loop-time.invariant xs (subst (λ es. EventsTold c.args.on_way.now (map pending_of es) xs) (sym none) told))
