use Rattle.std.proofs.Common.{map, length, sym, ap, ◌++◌, ◌∙◌, subst, refl, arith}
use Rattle.std.specs.List.{flat_map}
use Rattle.flow_numbered.specs.Numbered.{thing, next_above, IsRising}
use Rattle.flow_steps.specs.Views.{callback_view, callback_views}
use Rattle.flow_numbered.proofs.Above.{next_is}
use Rattle.flow_steps.proofs.Listing.{IsTold, told_none, told_next, told_all}
use Rattle.flow_steps.proofs.process.Process.callbacks.Goals as goal

pub loop-actor-init : goal.loop-actor-init
loop-actor-init c = λ most rising.
    let things = c.args.self.now.heap.frames.things in
    subst (λ ys. IsTold (flat_map callback_views) things ys 0) (sym c.new-views.ensures.items) (told_none (flat_map callback_views) things most rising)

pub callbacks-requires : goal.callbacks-requires
callbacks-requires c =
    let h = c.args.self.now.heap in
    let rising = subst (λ s. IsRising 0 s.things s.greatest) c.frames.ensures c.in-Some.ensures.rising in
    let next = next_is 0 h.frames.things h.frames.greatest c.loop-actor.last.0 c.in-Some.actor.0 rising (c.in-Some.ensures.value ∙ ap (λ s. next_above s.things c.loop-actor.last.0) c.frames.ensures)
    in
    let there = ap (λ s. thing s.things c.in-Some.actor.0) c.frames-in-Some.ensures ∙ next.there in
    rw there refl

pub loop-actor-smaller : goal.loop-actor-smaller
loop-actor-smaller c =
    let h = c.args.self.now.heap in
    let rising = subst (λ s. IsRising 0 s.things s.greatest) c.frames.ensures c.in-Some.ensures.rising in
    let next = next_is 0 h.frames.things h.frames.greatest c.loop-actor.last.0 c.in-Some.actor.0 rising (c.in-Some.ensures.value ∙ ap (λ s. next_above s.things c.loop-actor.last.0) c.frames.ensures)
    in
    omega (arith, ap length next.first)

pub loop-actor-preserved : goal.loop-actor-preserved
loop-actor-preserved c = λ most rising_all.
    let h = c.args.self.now.heap in
    let rising = subst (λ s. IsRising 0 s.things s.greatest) c.frames.ensures c.in-Some.ensures.rising in
    let next = next_is 0 h.frames.things h.frames.greatest c.loop-actor.last.0 c.in-Some.actor.0 rising (c.in-Some.ensures.value ∙ ap (λ s. next_above s.things c.loop-actor.last.0) c.frames.ensures)
    in
    let there = ap (λ s. thing s.things c.in-Some.actor.0) c.frames-in-Some.ensures ∙ next.there in
    let told = callback_views (c.in-Some.actor.0, next.what) in
    let all = told_next (flat_map callback_views) h.frames.things c.loop-actor.views.items told c.loop-actor.last.0 c.in-Some.actor.0 next (c.loop-actor.invariant most rising_all) refl in
    let added = c.in_ok-add_callbacks.ensures ∙ ap (λ hs. c.loop-actor.views.items ++ map (callback_view c.in-Some.actor.0) hs) (c.callbacks.ensures next.what there) in
    subst (λ ys. IsTold (flat_map callback_views) h.frames.things ys c.in-Some.actor.0) (sym added) all

pub returns : goal.returns
returns c =
    let h = c.args.self.now.heap in
    let rising = subst (λ s. IsRising 0 s.things s.greatest) c.frames.ensures c.in_default.ensures.rising in
    let none = c.in_default.ensures.value ∙ ap (λ s. next_above s.things c.loop-actor.last.0) c.frames.ensures in
    told_all (flat_map callback_views) h.frames.things c.loop-actor.views.items c.loop-actor.last.0 refl (c.loop-actor.invariant h.frames.greatest rising) none
