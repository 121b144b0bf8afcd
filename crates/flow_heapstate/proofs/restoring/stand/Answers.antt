use Rattle.std.proofs.Common.{refl, ap, ◌∙◌}
use Rattle.flow_numbered.specs.Numbered.{thing, with_thing}
use Rattle.flow_frame.specs.Frames.{in_state}
use Rattle.flow_heapstate.specs.Restoring.{stood}
use Rattle.flow_heapstate.proofs.Reading.{what_is}
use Rattle.flow_heapstate.proofs.Building.{with_with, with_thing_is}
use Rattle.flow_heapstate.proofs.restoring.stand.Goals as goal

pub add_callbacks-requires : goal.add_callbacks-requires
add_callbacks-requires c =
    let s = c.args.frames.now in
    let n = c.args.actor.0 in
    let there = what_is (thing s.things n) c.requires in
    let now = with_thing_is s c.set_state.new.self n there.0 (in_state c.args.state there.0) there.1 (c.set_state.ensures there.0 there.1) in
    rw now refl

pub returns : goal.returns
returns c = λ x e.
    let s = c.args.frames.now in
    let n = c.args.actor.0 in
    let stands = c.set_state.ensures x e in
    let now = with_thing_is s c.set_state.new.self n x (in_state c.args.state x) e stands in
    c.in_ok-add_callbacks.ensures (in_state c.args.state x) now ∙ ap (λ t. with_thing t n (stood c.args.state c.args.callbacks.now x)) stands
    ∙ with_with s n (in_state c.args.state x) (stood c.args.state c.args.callbacks.now x)
