use Rattle.std.proofs.Common.{take}
use Rattle.flow_world.specs.Ports.{PortsRepresent}
use Rattle.flow_world.specs.Saving.{numbers_of}
use Rattle.flow_world.proofs.ports.Ports.of.Given as goal

abbrev pub invariant-loop-entry : goal.invariant-loop-entry
invariant-loop-entry l = PortsRepresent l.ports (numbers_of (take l.entry-index l.listed))
