use Rattle.std.proofs.Common.{◌≡◌, map, option_map}
use Rattle.flow_monitor.specs.Attaching.{first_named}
use Rattle.flow_top.proofs.asking.first_named.Given as goal

abbrev pub invariant-loop-monitor : goal.invariant-loop-monitor
invariant-loop-monitor g l =
    option_map (λ m. record { name = (goal.Monitor-dyn g (m.vtable, m.value)).label m.value; begun = (goal.Monitor-dyn g (m.vtable, m.value)).begun m.value }) l.found
    ≡ first_named l.name (map (λ m. record { name = (goal.Monitor-dyn g (m.vtable, m.value)).label m.value; begun = (goal.Monitor-dyn g (m.vtable, m.value)).begun m.value }) l.yielded)
