use Rattle.std.proofs.Common.{◌≡◌, map, option_map}
use Rattle.std.specs.String.{string_bytes}
use Rattle.flow_monitor.specs.Attaching.{attached}
use Rattle.flow_monitor.proofs.attach.seats_of.Given as goal

abbrev pub invariant-loop-monitor : goal.invariant-loop-monitor
invariant-loop-monitor g l =
    map (λ s. record { name = string_bytes s.name; ear = option_map (λ m. (goal.Monitor-dyn g (m.vtable, m.value)).ear m.value) s.monitor }) l.seats.items
    ≡ attached l.wanted (map (λ m. record { name = (goal.Monitor-dyn g (m.vtable, m.value)).label m.value; begun = (goal.Monitor-dyn g (m.vtable, m.value)).begun m.value }) l.yielded)
