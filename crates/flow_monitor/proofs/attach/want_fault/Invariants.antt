use Rattle.std.proofs.Common.{◌≡◌, map}
use Rattle.flow_monitor.specs.Attaching.{fault_below}
use Rattle.flow_monitor.proofs.attach.want_fault.Given as goal

abbrev pub invariant-loop-k : goal.invariant-loop-k
invariant-loop-k g l = l.first ≡ fault_below (map (λ m. (goal.Monitor-dyn g (m.vtable, m.value)).label m.value) l.handed) l.wanted l.k
