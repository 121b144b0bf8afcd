use Rattle.std.proofs.Common.{rules, ap, sym, ◌∙◌}
use Rattle.flow_cancel.specs.Heap.{HeapTree}
use Rattle.flow_steps.specs.StuckCalls.{other_void_params}
use Rattle.flow_steps.proofs.Acts.{enrols_alone_by}
use Rattle.flow_steps.proofs.process.Process.enrol_alone.Goals as goal

pub returns-clause-done : goal.returns-clause-done
returns-clause-done c =
    enrols_alone_by _ _ _ _ _ _ c.args.self.now c.fill_places.new.self _ c.in-Some.ensures (search rules) c.in_ok-filled.ensures.counted c.in_ok-filled.ensures.filled
    c.in_ok-actor.ensures.number (ap (λ (h : HeapTree). record c.fill_places.new.self { heap = h }) c.in_ok-actor.ensures.started)

pub returns-then-len-class-clause-stuck : goal.returns-then-len-class-clause-stuck
returns-then-len-class-clause-stuck c =
    other_void_params c.in-Some.class.now (sym c.in-Some.ensures) (λ e. c.if-len-class.true (c.len.ensures ∙ c.args.args.ok.0 ∙ e))
