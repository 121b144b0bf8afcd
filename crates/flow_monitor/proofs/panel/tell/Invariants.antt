use Rattle.std.proofs.Common.{option_map}
use Rattle.std.specs.String.{string_bytes}
use Rattle.flow_monitor.proofs.Keeping.{Told}
use Rattle.flow_monitor.proofs.panel.tell.Given as goal

abbrev pub invariant-loop-k : goal.invariant-loop-k
invariant-loop-k g l =
    Told (λ s. record { name = string_bytes s.name; ear = option_map (λ m. (goal.Monitor-dyn g (m.vtable, m.value)).ear m.value) s.monitor })
    l.line l.initial.seats l.seats l.k l.first
