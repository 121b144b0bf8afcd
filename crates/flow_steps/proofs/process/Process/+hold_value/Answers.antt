use Rattle.std.proofs.Common.{rules, ap, ◌∙◌, subst}
use Rattle.flow_heap_refinement.specs.Holds.{hold_all}
use Rattle.flow_steps.specs.declared.process.Process.{Process}
use Rattle.flow_steps.specs.Stuck.{SomeMissing}
use Rattle.flow_steps.specs.Holding.{value_refs}
use Rattle.flow_steps.proofs.Holding.{fields_missing, kept_but_heap, fields_step, missing_step, field_missing, if_stuck_weaker}
use Rattle.flow_steps.proofs.process.Process.+hold_value.Goals as goal

pub hold_parts-loop-part-preserved : goal.hold_parts-loop-part-preserved
hold_parts-loop-part-preserved t c =
    let v = c.part-item.result in
    let q = c.loop-part.self in
    let r = c.hold_value.new.self in (
      kept_but_heap c.args.self.now q r (hold_all (value_refs v)) c.loop-part.invariant.0 c.in_ok-hold_value.ensures.done,
      fields_step c.args.parts.now c.loop-part.part-index v q.heap r.heap _ c.loop-part-test.true
          (ap (λ (x : Process). x.heap) c.in_ok-hold_value.ensures.done ∙ ap (λ w. hold_all (value_refs w) q.heap) c.part-item.is)
          c.loop-part.invariant.1,
      missing_step c.args.parts.now c.loop-part.part-index v q.heap r.heap _ c.loop-part-test.true
          (ap (λ (x : Process). x.heap) c.in_ok-hold_value.ensures.done ∙ ap (λ w. hold_all (value_refs w) q.heap) c.part-item.is)
          c.loop-part.invariant.2,
    )

pub hold_parts-returns-in_err-hold_value-clause-stuck : goal.hold_parts-returns-in_err-hold_value-clause-stuck
hold_parts-returns-in_err-hold_value-clause-stuck t c =
    let v = c.part-item.result in
    let q = c.loop-part.self in
    let h = if_stuck_weaker c.in_err-hold_value.field-0.0 _ (fields_missing c.args.parts.now c.args.self.now.heap)
    (λ m. field_missing c.args.parts.now c.loop-part.part-index v q.heap _ c.loop-part-test.true c.loop-part.invariant.2
    (subst (λ w. SomeMissing (value_refs w) q.heap) c.part-item.is m)) c.in_err-hold_value.ensures.stuck in
    search (rules, h)
