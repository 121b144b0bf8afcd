use Rattle.std.proofs.Common.{◌≡◌, ◌++◌}
use Rattle.flow_world.specs.Saving.{numbers_of}
use Rattle.flow_world.proofs.ports.Ports.listed.Given as goal

abbrev pub invariant-loop-port : goal.invariant-loop-port
invariant-loop-port l = numbers_of l.list.items ++ l.port-iterator ≡ l.self.streams.entries
