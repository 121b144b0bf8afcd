use Rattle.std.proofs.Common.{ap, ◌∙◌, subst}
use Rattle.flow_cancel.specs.Heap.{HeapTree}
use Rattle.flow_steps.specs.declared.process.Process.{Process}
use Rattle.flow_steps.specs.Stuck.{OnStuck}
use Rattle.flow_steps.specs.StuckWaits.{TakesStuck}
use Rattle.flow_steps.proofs.Amiss.{turned_heap}
use Rattle.flow_steps.proofs.process.Process.take.Goals as goal

pub returns-clause-stuck : goal.returns-clause-stuck
returns-clause-stuck c =
    subst (λ (h : HeapTree). OnStuck c.take_now.result (TakesStuck c.args.stand.now c.args.cell.0 h))
    (ap (λ (x : Process). x.heap) c.turn.ensures.left ∙ turned_heap c.args.self.now) c.take_now.ensures.stuck
