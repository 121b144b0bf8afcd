use Rattle.std.proofs.Common.{rules, ap}
use Rattle.flow_steps.specs.declared.process.Process.{Process}
use Rattle.flow_steps.specs.StuckTasks.{HandlesStuck, no_frame_left, no_variable, no_error_place}
use Rattle.flow_steps.proofs.Holding.{if_stuck_weaker, on_stuck_weaker}
use Rattle.flow_steps.proofs.TasksAmiss.{error_place_still, caught_still, left_caught, variables_still}
use Rattle.flow_steps.proofs.process.Process.caught.Goals as goal

pub returns-in_err-values-clause-stuck : goal.returns-in_err-values-clause-stuck
returns-in_err-values-clause-stuck c =
    let h = if_stuck_weaker c.in_err-values.field-0.0 _
    (HandlesStuck c.args.actor.0 c.args.catcher.now c.args.self.now.heap)
    (λ m. no_variable (variables_still c.args.actor.0 _ c.deref.result.now c.args.catcher.now.drops.items c.args.self.now.heap _ (search rules) c.in_ok-push.ensures m)) c.in_err-values.ensures.stuck
    in
    search (rules, h)

pub returns-in_err-put_error-clause-stuck : goal.returns-in_err-put_error-clause-stuck
returns-in_err-put_error-clause-stuck c =
    let h = if_stuck_weaker c.in_err-put_error.field-0.0 _
    (HandlesStuck c.args.actor.0 c.args.catcher.now c.args.self.now.heap)
    (λ m. no_error_place (error_place_still c.args.actor.0 c.args.catcher.now.error _ c.deref.result.now _ c.args.self.now.heap _ _ _ c.in_ok-push.ensures
    (ap (λ (x : Process). x.heap) c.in_ok-values.ensures.emptied) (ap (λ (x : Process). x.heap) c.in_ok-drop_values.ensures.done) m)) c.in_err-put_error.ensures.stuck in
    search (rules, h)

pub returns-in_err-leave-clause-stuck : goal.returns-in_err-leave-clause-stuck
returns-in_err-leave-clause-stuck c =
    let h = if_stuck_weaker c.in_err-leave.field-0.0 _
    (HandlesStuck c.args.actor.0 c.args.catcher.now c.args.self.now.heap)
    (λ m. no_frame_left (caught_still c.args.actor.0 c.args.catcher.now.error c.args.error _ c.deref.result.now _ c.args.self.now.heap _ _ _ _ c.in_ok-push.ensures
    (ap (λ (x : Process). x.heap) c.in_ok-values.ensures.emptied) (ap (λ (x : Process). x.heap) c.in_ok-drop_values.ensures.done) (ap (λ (x : Process). x.heap) c.in_ok-put_error.ensures.done) m))
    c.in_err-leave.ensures.stuck in
    search (rules, h)

pub returns-clause-stuck : goal.returns-clause-stuck
returns-clause-stuck c =
    on_stuck_weaker c.go.result _ _
    (λ m. no_frame_left (caught_still c.args.actor.0 c.args.catcher.now.error c.args.error _ c.deref.result.now _ c.args.self.now.heap _ _ _ _ c.in_ok-push.ensures
    (ap (λ (x : Process). x.heap) c.in_ok-values.ensures.emptied) (ap (λ (x : Process). x.heap) c.in_ok-drop_values.ensures.done) (ap (λ (x : Process). x.heap) c.in_ok-put_error.ensures.done)
    (left_caught c.args.actor.0 _ _ (ap (λ (x : Process). x.heap) c.in_ok-leave.ensures.left) m))) c.go.ensures.stuck
