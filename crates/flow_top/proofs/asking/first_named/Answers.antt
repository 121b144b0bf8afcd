use Rattle.flow_monitor.proofs.Joining.{named_more}
use Rattle.flow_top.proofs.asking.first_named.Goals as goal

pub loop-monitor-preserved : goal.loop-monitor-preserved
loop-monitor-preserved g c = named_more
    (λ m. record { name = (goal.Monitor-dyn g (m.vtable, m.value)).label m.value; begun = (goal.Monitor-dyn g (m.vtable, m.value)).begun m.value }) c.args.name.now c.loop-monitor.yielded _ _ _ c.loop-monitor.invariant c.or_named-found.ensures
