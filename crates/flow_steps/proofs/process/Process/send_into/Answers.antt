use Rattle.std.proofs.Common.{◌≡◌, false, inl, sym, ap, subst, ◌∙◌}
use Rattle.flow_cancel.specs.Heap.{HeapTree, pushed}
use Rattle.flow_cancel.specs.declared.task.Task.TheVariants.{Run}
use Rattle.flow_heap_refinement.specs.Holds.{hold_all}
use Rattle.flow_steps.specs.declared.process.Process.{Process}
use Rattle.flow_steps.specs.Holding.{outcome_refs}
use Rattle.flow_steps.specs.Delivering.{complete_at}
use Rattle.flow_steps.specs.Stuck.{MayNotFill}
use Rattle.flow_steps.proofs.Holding.{on_stuck_weaker}
use Rattle.flow_steps.proofs.Amiss.{turned_heap, unfilled_missing}
use Rattle.flow_steps.proofs.process.Process.send_into.Goals as goal

pub returns-clause-stuck : goal.returns-clause-stuck
returns-clause-stuck c =
    let p = c.args.self.now in
    let kd = c.args.kind in
    let k = c.args.cell.0 in
    let rs = outcome_refs c.args.outcome in
    let complete : complete_at kd k p.heap ≡ false = sym c.in_ok-is_complete.ensures.done ∙ c.if-branch.false in
    let turned = ap (λ (x : Process). x.heap) c.turn.ensures.left ∙ turned_heap p in
    let held = ap (λ (x : Process). x.heap) c.in_ok-hold_outcome.ensures.done ∙ ap (hold_all rs) turned in
    let now = c.in_ok-push.ensures ∙ ap (pushed (Run c.args.actor)) held in
    on_stuck_weaker c.fill.result _ _ (λ m. inl (unfilled_missing kd k rs (Run c.args.actor) p.heap complete (subst (λ (h : HeapTree). MayNotFill kd k h) now m)))
    c.fill.ensures.stuck
