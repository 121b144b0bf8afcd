use Rattle.std.proofs.Common.{rules, ap}
use Rattle.flow_steps.specs.declared.process.Process.{Process}
use Rattle.flow_steps.proofs.Holding.{if_stuck_weaker}
use Rattle.flow_steps.proofs.Amiss.{left_still, departed_still}
use Rattle.flow_steps.proofs.Over.{over_wait}
use Rattle.flow_steps.proofs.process.Process.leave_for.Goals as goal

pub returns-clause-drops : goal.returns-clause-drops
returns-clause-drops c = over_wait _ _ _ _ _ _ c.in_ok-push.ensures c.in_ok-lose_locals.ensures.drops c.in_ok-leave.ensures.drops c.go.ensures.tasks

pub returns-in_err-leave-clause-stuck : goal.returns-in_err-leave-clause-stuck
returns-in_err-leave-clause-stuck c =
    let i = c.args.stand.now.actor.0 in
    let lost = ap (λ (x : Process). x.heap) c.in_ok-lose_locals.ensures.lost in
    let h = if_stuck_weaker c.in_err-leave.field-0.0 _ _
    (left_still i c.args.stand.now.class.now.slots i c.args.task c.args.self.now.heap _ _ c.in_ok-push.ensures lost) c.in_err-leave.ensures.stuck in
    search (rules, h)

pub returns-in_err-go-clause-stuck : goal.returns-in_err-go-clause-stuck
returns-in_err-go-clause-stuck c =
    let i = c.args.stand.now.actor.0 in
    let lost = ap (λ (x : Process). x.heap) c.in_ok-lose_locals.ensures.lost in
    let left = ap (λ (x : Process). x.heap) c.in_ok-leave.ensures.left in
    let h = if_stuck_weaker c.in_err-go.field-0.0 _ _
    (departed_still i c.args.stand.now.class.now.slots i c.args.task c.args.self.now.heap _ _ _ c.in_ok-push.ensures lost left) c.in_err-go.ensures.stuck in
    search (rules, h)
