use Rattle.flow_monitor.proofs.Joining.{joined_more}
use Rattle.flow_monitor.proofs.attach.seats_of.Goals as goal

pub loop-monitor-preserved : goal.loop-monitor-preserved
loop-monitor-preserved g c = joined_more
    (λ m. record { name = (goal.Monitor-dyn g (m.vtable, m.value)).label m.value; begun = (goal.Monitor-dyn g (m.vtable, m.value)).begun m.value }) c.args.wanted.now c.loop-monitor.yielded _ _ _ c.loop-monitor.invariant c.in_ok-join.ensures
