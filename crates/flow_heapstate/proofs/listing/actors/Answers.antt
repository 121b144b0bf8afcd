use Rattle.std.proofs.Common.{sym, ap, ◌∙◌, subst}
use Rattle.flow_numbered.specs.Numbered.{next_above}
use Rattle.flow_heapstate.specs.State.{actor_kept, actor_part}
use Rattle.flow_numbered.proofs.Above.{next_is}
use Rattle.flow_heapstate.proofs.Reading.{IsListed, next_found, listed_none, listed_next, listed_all}
use Rattle.flow_heapstate.proofs.listing.actors.Goals as goal

pub loop-actor-init : goal.loop-actor-init
loop-actor-init c = λ rising.
    subst (λ ys. IsListed actor_kept (actor_part c.args.heap.now.actors.things) c.args.heap.now.frames.things ys 0) (sym c.new-listed.ensures.items)
    (listed_none actor_kept (actor_part c.args.heap.now.actors.things) c.args.heap.now.frames.things c.args.heap.now.frames.greatest rising)

pub actor_state-requires : goal.actor_state-requires
actor_state-requires c =
    let found = next_found c.args.heap.now.frames.things c.loop-actor.last.0 c.in-Some.actor.0 (c.in-Some.ensures.value ∙ ap (λ s. next_above s.things c.loop-actor.last.0) c.frames.ensures) in
    found.there

pub loop-actor-smaller : goal.loop-actor-smaller
loop-actor-smaller c =
    let found = next_found c.args.heap.now.frames.things c.loop-actor.last.0 c.in-Some.actor.0 (c.in-Some.ensures.value ∙ ap (λ s. next_above s.things c.loop-actor.last.0) c.frames.ensures) in
    found.fewer

pub loop-actor-preserved : goal.loop-actor-preserved
loop-actor-preserved c = λ rising.
    let next = next_is 0 c.args.heap.now.frames.things c.args.heap.now.frames.greatest c.loop-actor.last.0 c.in-Some.actor.0 rising
    (c.in-Some.ensures.value ∙ ap (λ s. next_above s.things c.loop-actor.last.0) c.frames.ensures) in
    subst (λ ys. IsListed actor_kept (actor_part c.args.heap.now.actors.things) c.args.heap.now.frames.things ys c.in-Some.actor.0) (sym c.in_ok-push.ensures.items)
    (listed_next actor_kept (actor_part c.args.heap.now.actors.things) c.args.heap.now.frames.things c.loop-actor.listed.items c.in_ok-actor_state.field-0 c.loop-actor.last.0 c.in-Some.actor.0 next
    (c.loop-actor.invariant rising) (c.in_ok-actor_state.ensures next.what next.there))

pub returns : goal.returns
returns c = λ rising.
    listed_all actor_kept (actor_part c.args.heap.now.actors.things) c.args.heap.now.frames.things c.loop-actor.listed.items c.loop-actor.last.0 (c.loop-actor.invariant rising)
    (c.in_default.ensures.value ∙ ap (λ s. next_above s.things c.loop-actor.last.0) c.frames.ensures)
