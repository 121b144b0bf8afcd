use Rattle.std.proofs.Common.{Option, sym, ap, ◌∙◌}
use Rattle.flow_numbered.specs.Numbered.{with_thing}
use Rattle.flow_cell.specs.declared.waiter.Waiter.{Waiter}
use Rattle.flow_stream.specs.Streams.{or_waiter}
use Rattle.flow_heapstate.proofs.restoring.await_stream.Goals as goal

pub returns-in-Some : goal.returns-in-Some
returns-in-Some c = λ x e.
    let s = c.args.streams.now in
    let n = c.args.cell.0 in
    c.add_waiter.ensures.waiter x e ∙ ap (λ (o : Option Waiter). with_thing s n (record x { waiter = or_waiter o c.in-Some.waiter })) (c.requires.alone x e)
    ∙ ap (λ (o : Option Waiter). with_thing s n (record x { waiter = o })) (sym c.in-Some.is)
