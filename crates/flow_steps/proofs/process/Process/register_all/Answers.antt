use Rattle.std.proofs.Common.{rules, refl, sym, ap, subst, ◌∙◌, ◌<◌, slice_get}
use Rattle.flow_frame.specs.Frames.{FrameTree}
use Rattle.flow_value.specs.declared.value.Value.{Value}
use Rattle.flow_numbered.specs.Numbered.{Store, thing}
use Rattle.flow_steps.specs.declared.process.Process.{Process}
use Rattle.flow_steps.specs.Waiting.{callbacks_in, callbacks_of, register}
use Rattle.flow_steps.specs.StuckWaits.{SomeNoCell}
use Rattle.flow_steps.proofs.Holding.{if_stuck_weaker}
use Rattle.flow_steps.proofs.Waits.{frames_stay, next_registered, next_refused}
use Rattle.flow_steps.proofs.Amiss.{no_cell_step, no_cell_here, get_none}
use Rattle.flow_steps.proofs.process.Process.register_all.Goals as goal

pub returns-then-not-branch-clause-done : goal.returns-then-not-branch-clause-done
returns-then-not-branch-clause-done c =
    let i = c.args.actor.0 in
    next_refused i _ c.loop-place.place c.in-Some.held c.loop-place.self.heap _ _ c.args.self.now c.loop-place.self c.register.new.self c.loop-place.invariant.0
    (c.in-Some.ensures ∙ ap (λ (s : Store (FrameTree Value)). slice_get (callbacks_in (thing s.things i)) c.loop-place.place) c.loop-place.invariant.1)
    c.in_ok-register.ensures.done c.if-not-branch.true c.loop-place.invariant.2

pub loop-place-preserved : goal.loop-place-preserved
loop-place-preserved c =
    let i = c.args.actor.0 in
    let h = c.loop-place.self.heap in
    let r = register i c.in-Some.held h in
    let held = c.in-Some.ensures ∙ ap (λ (s : Store (FrameTree Value)). slice_get (callbacks_in (thing s.things i)) c.loop-place.place) c.loop-place.invariant.1 in (
      c.in_ok-register.ensures.done.1 ∙ ap (λ (x : Process). record x { heap = r.1 }) c.loop-place.invariant.0
          ∙ sym (ap (λ (x : Process). record c.args.self.now { heap = x.heap }) c.in_ok-register.ensures.done.1),
      ap (λ (x : Process). x.heap.frames) c.in_ok-register.ensures.done.1 ∙ frames_stay i c.in-Some.held h ∙ c.loop-place.invariant.1,
      next_registered i _ c.loop-place.place c.in-Some.held h h _ c.loop-place.self c.register.new.self refl
          held c.in_ok-register.ensures.done c.if-not-branch.false
          ∙ c.loop-place.invariant.2,
      no_cell_step i _ c.loop-place.place c.in-Some.held h c.register.new.self.heap _ held
          (ap (λ (x : Process). x.heap) c.in_ok-register.ensures.done.1) c.loop-place.invariant.3,
    )

pub returns-in_default-clause-stuck : goal.returns-in_default-clause-stuck
returns-in_default-clause-stuck c =
    let i = c.args.actor.0 in
    let n = c.loop-place.place in
    let lt = subst (λ count. n < count) c.operands-count.ensures c.loop-place-test.true in
    let none = c.in_default.ensures ∙ ap (λ (s : Store (FrameTree Value)). slice_get (callbacks_in (thing s.things i)) n) c.loop-place.invariant.1 in
    absurd (get_none (callbacks_of i c.args.self.now.heap) n lt (sym none))

pub returns-in_err-register-clause-stuck : goal.returns-in_err-register-clause-stuck
returns-in_err-register-clause-stuck c =
    let i = c.args.actor.0 in
    let p = c.args.self.now in
    let n = c.loop-place.place in
    let held = c.in-Some.ensures ∙ ap (λ (s : Store (FrameTree Value)). slice_get (callbacks_in (thing s.things i)) n) c.loop-place.invariant.1 in
    let h = if_stuck_weaker c.in_err-register.field-0.0 _ (SomeNoCell (callbacks_of i p.heap) p.heap)
    (no_cell_here (callbacks_of i p.heap) n c.in-Some.held c.loop-place.self.heap _ held c.loop-place.invariant.3) c.in_err-register.ensures.stuck in
    search (rules, h)
