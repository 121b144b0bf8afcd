use Rattle.std.proofs.Common.{length, ap, ◌∙◌, subst, arith}
use Rattle.flow_numbered.specs.Numbered.{next_above, IsRising}
use Rattle.flow_numbered.proofs.Above.{next_is, none_above, all_above}
use Rattle.flow_steps.proofs.process.Process.live.Goals as goal

pub loop-actor-init : goal.loop-actor-init
loop-actor-init c = record {
  counted = λ most rising. omega (arith, ap length (all_above 0 0 c.args.self.now.heap.frames.things most (omega arith) rising));
  within = omega arith;
}

pub overflow_add-count : goal.overflow_add-count
overflow_add-count c =
    let h = c.args.self.now.heap in
    let rising = subst (λ s. IsRising 0 s.things s.greatest) c.frames.ensures c.in-Some.ensures.rising in
    let next = next_is 0 h.frames.things h.frames.greatest c.loop-actor.last.0 c.in-Some.actor.0 rising (c.in-Some.ensures.value ∙ ap (λ s. next_above s.things c.loop-actor.last.0) c.frames.ensures)
    in
    omega (arith, c.loop-actor.invariant.within, next.above)

pub loop-actor-smaller : goal.loop-actor-smaller
loop-actor-smaller c =
    let h = c.args.self.now.heap in
    let rising = subst (λ s. IsRising 0 s.things s.greatest) c.frames.ensures c.in-Some.ensures.rising in
    let next = next_is 0 h.frames.things h.frames.greatest c.loop-actor.last.0 c.in-Some.actor.0 rising (c.in-Some.ensures.value ∙ ap (λ s. next_above s.things c.loop-actor.last.0) c.frames.ensures)
    in
    omega (arith, ap length next.first)

pub loop-actor-preserved : goal.loop-actor-preserved
loop-actor-preserved c =
    let h = c.args.self.now.heap in
    let rising = subst (λ s. IsRising 0 s.things s.greatest) c.frames.ensures c.in-Some.ensures.rising in
    let next = next_is 0 h.frames.things h.frames.greatest c.loop-actor.last.0 c.in-Some.actor.0 rising (c.in-Some.ensures.value ∙ ap (λ s. next_above s.things c.loop-actor.last.0) c.frames.ensures)
    in
    record {
      counted = λ most rising_all. omega (arith, ap length next.first, c.loop-actor.invariant.counted most rising_all);
      within = omega (arith, c.loop-actor.invariant.within, next.above);
    }

pub returns : goal.returns
returns c =
    let h = c.args.self.now.heap in
    let rising = subst (λ s. IsRising 0 s.things s.greatest) c.frames.ensures c.in_default.ensures.rising in
    let none = c.in_default.ensures.value ∙ ap (λ s. next_above s.things c.loop-actor.last.0) c.frames.ensures in
    omega (arith, ap length (none_above h.frames.things c.loop-actor.last.0 none), c.loop-actor.invariant.counted h.frames.greatest rising)
