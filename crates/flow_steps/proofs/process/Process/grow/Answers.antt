use Rattle.std.proofs.Common.{rules, arith, inl, ◌<◌, ◌⊎◌}
use Rattle.flow_tree.specs.declared.limits.TheConstants.{ELEMENTS}
use Rattle.flow_steps.specs.Holding.{value_refs}
use Rattle.flow_steps.specs.Stuck.{FrameMissing, SomeMissing}
use Rattle.flow_steps.specs.StuckSteps.{NoVectorAt}
use Rattle.flow_steps.proofs.Holding.{if_stuck_weaker}
use Rattle.flow_steps.proofs.InPlace.{full, none_held, grows_by}
use Rattle.flow_steps.proofs.process.Process.grow.Goals as goal

pub returns-then-count-ge-ELEMENTS-clause-done : goal.returns-then-count-ge-ELEMENTS-clause-done
returns-then-count-ge-ELEMENTS-clause-done c =
    full c.args.code.now c.args.stand.now c.args.aim.now c.args.element c.in-Some.ensures.done.0 c.in-Some.count c.args.self.now c.note.new.self c.throw.new.self
    c.in-Some.ensures.done.1 c.in-Some.ensures.done.2 c.if-count-ge-ELEMENTS.true c.in_ok-note.ensures.noted c.in_ok-throw.ensures.done

pub returns-in_err-append-clause-stuck : goal.returns-in_err-append-clause-stuck
returns-in_err-append-clause-stuck c =
    let i = c.args.stand.now.actor in
    let h = if_stuck_weaker c.in_err-append.field-0.0 _
    (NoVectorAt c.args.code.now i.0 c.args.aim.now c.args.self.now ⊎ FrameMissing i.0 c.args.self.now.heap ⊎ SomeMissing (value_refs c.args.element) c.args.self.now.heap)
    (λ m. inl (none_held c.args.code.now i c.args.aim.now c.args.element c.args.self.now c.hold_value.new.self c.in_ok-hold_value.ensures.done m))
    c.in_err-append.ensures.stuck in
    search (rules, h)

pub returns-clause-done : goal.returns-clause-done
returns-clause-done c =
    let few : c.in-Some.count < ELEMENTS = omega (arith, c.if-count-ge-ELEMENTS.false) in
    grows_by c.args.code.now c.args.stand.now c.in_ok-next.next c.args.aim.now c.args.element c.in-Some.ensures.done.0 c.in-Some.count c.args.self.now c.hold_value.new.self c.append.new.self
    c.in-Some.ensures.done.1 c.in-Some.ensures.done.2 few c.in_ok-hold_value.ensures.done c.in_ok-append.ensures.done c.in_ok-next.ensures.done
