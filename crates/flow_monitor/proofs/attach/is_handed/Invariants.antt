use Rattle.std.proofs.Common.{◌≡◌, take}
use Rattle.std.specs.Prelude.{bytes_eq}
use Rattle.std.specs.List.{list_any}
use Rattle.flow_monitor.proofs.attach.is_handed.Given as goal

abbrev pub invariant-loop-k : goal.invariant-loop-k
invariant-loop-k g l = l.found ≡ list_any (λ x. bytes_eq ((goal.Monitor-dyn g (x.vtable, x.value)).label x.value) l.name) (take l.k l.handed)
