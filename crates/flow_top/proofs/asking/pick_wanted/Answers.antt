use Rattle.std.proofs.Common.{sym, map}
use Rattle.flow_top.proofs.Picking.{is_there, is_not_there, panel_of}
use Rattle.flow_top.proofs.asking.pick_wanted.Goals as goal

pub returns-in-Some-clause-fault : goal.returns-in-Some-clause-fault
returns-in-Some-clause-fault g c = is_there c.args.want.now _ _ c.in-Some.ensures

pub returns-in-Some-clause-ears : goal.returns-in-Some-clause-ears
returns-in-Some-clause-ears g c =
    sym (panel_of c.args.want.now _
    (map (λ m. record { name = (goal.Monitor-dyn g (m.vtable, m.value)).label m.value; begun = (goal.Monitor-dyn g (m.vtable, m.value)).begun m.value }) c.args.monitors.items)
    c.in-Some.ensures)

pub returns-in-None-clause-fault : goal.returns-in-None-clause-fault
returns-in-None-clause-fault g c = is_not_there c.args.want.now _ c.in-None.ensures
