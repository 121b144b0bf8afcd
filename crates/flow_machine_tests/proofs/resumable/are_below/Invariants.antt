use Rattle.std.proofs.Common.{take}
use Rattle.flow_simnet.specs.Links.{AreBelow}
use Rattle.flow_machine_tests.proofs.resumable.are_below.Given as goal

abbrev pub invariant-loop-p : goal.invariant-loop-p
invariant-loop-p l = AreBelow l.processes (take l.p-index l.links)
