use Rattle.std.proofs.Common.{[], ◌∷◌, map, length, sym, ap, ◌∙◌, subst, refl, arith}
use Rattle.flow_numbered.specs.Numbered.{next_above, IsRising}
use Rattle.flow_steps.specs.Views.{frame_view}
use Rattle.flow_numbered.proofs.Above.{next_is, things_above}
use Rattle.flow_steps.proofs.Listing.{IsTold, told_none, told_next, told_all}
use Rattle.flow_steps.proofs.process.Process.frames.Goals as goal

pub loop-actor-init : goal.loop-actor-init
loop-actor-init c = λ most rising.
    let things = c.args.self.now.heap.frames.things in
    subst (λ ys. IsTold (map frame_view) things ys 0) (sym c.new-views.ensures.items) (told_none (map frame_view) things most rising)

pub frame_view-requires : goal.frame_view-requires
frame_view-requires c =
    let h = c.args.self.now.heap in
    let rising = subst (λ s. IsRising 0 s.things s.greatest) c.frames.ensures c.in-Some.ensures.rising in
    let next = next_is 0 h.frames.things h.frames.greatest c.loop-actor.last.0 c.in-Some.actor.0 rising (c.in-Some.ensures.value ∙ ap (λ s. next_above s.things c.loop-actor.last.0) c.frames.ensures)
    in
    rw next.there refl

pub loop-actor-smaller : goal.loop-actor-smaller
loop-actor-smaller c =
    let h = c.args.self.now.heap in
    let rising = subst (λ s. IsRising 0 s.things s.greatest) c.frames.ensures c.in-Some.ensures.rising in
    let next = next_is 0 h.frames.things h.frames.greatest c.loop-actor.last.0 c.in-Some.actor.0 rising (c.in-Some.ensures.value ∙ ap (λ s. next_above s.things c.loop-actor.last.0) c.frames.ensures)
    in
    omega (arith, ap length next.first)

pub loop-actor-preserved : goal.loop-actor-preserved
loop-actor-preserved c = λ most rising_all.
    let h = c.args.self.now.heap in
    let rising = subst (λ s. IsRising 0 s.things s.greatest) c.frames.ensures c.in-Some.ensures.rising in
    let next = next_is 0 h.frames.things h.frames.greatest c.loop-actor.last.0 c.in-Some.actor.0 rising (c.in-Some.ensures.value ∙ ap (λ s. next_above s.things c.loop-actor.last.0) c.frames.ensures)
    in
    let same = ap (λ v. v ∷ map frame_view (things_above c.in-Some.actor.0 h.frames.things)) (c.frame_view.ensures next.what next.there) in
    let told = told_next (map frame_view) h.frames.things c.loop-actor.views.items (c.frame_view.result ∷ []) c.loop-actor.last.0 c.in-Some.actor.0 next
    (c.loop-actor.invariant most rising_all) same in
    subst (λ ys. IsTold (map frame_view) h.frames.things ys c.in-Some.actor.0) (sym c.in_ok-push.ensures.items) told

pub returns : goal.returns
returns c =
    let h = c.args.self.now.heap in
    let rising = subst (λ s. IsRising 0 s.things s.greatest) c.frames.ensures c.in_default.ensures.rising in
    let none = c.in_default.ensures.value ∙ ap (λ s. next_above s.things c.loop-actor.last.0) c.frames.ensures in
    told_all (map frame_view) h.frames.things c.loop-actor.views.items c.loop-actor.last.0 refl (c.loop-actor.invariant h.frames.greatest rising) none
