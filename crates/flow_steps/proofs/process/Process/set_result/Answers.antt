use Rattle.std.proofs.Common.{rules, inl}
use Rattle.flow_steps.specs.StuckTasks.{NoPromise, ResultStuck}
use Rattle.flow_numbered.specs.Numbered.{thing}
use Rattle.flow_cancel.specs.Heap.{HeapTree}
use Rattle.flow_steps.proofs.Holding.{if_stuck_weaker, on_stuck_weaker}
use Rattle.flow_steps.proofs.TasksAmiss.{turned_on, result_after}
use Rattle.flow_steps.proofs.process.Process.set_result.Goals as goal

pub returns-in_err-end_promise-clause-stuck : goal.returns-in_err-end_promise-clause-stuck
returns-in_err-end_promise-clause-stuck c =
    let h = if_stuck_weaker c.in_err-end_promise.field-0.0 _
    (ResultStuck c.args.cell.0 c.args.self.now.heap)
    (λ m. inl (turned_on (λ (h : HeapTree). NoPromise (thing h.cells.things c.args.cell.0)) c.args.self.now c.turn.new.self c.turn.ensures.left m)) c.in_err-end_promise.ensures.stuck in
    search (rules, h)

pub returns-clause-stuck : goal.returns-clause-stuck
returns-clause-stuck c =
    on_stuck_weaker c.fill.result _ _
    (result_after c.args.cell.0 c.args.self.now c.turn.new.self c.end_promise.new.self c.turn.ensures.left c.in_ok-end_promise.ensures.done) c.fill.ensures.stuck
