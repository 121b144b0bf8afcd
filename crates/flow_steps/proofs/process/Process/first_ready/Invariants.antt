use Rattle.std.proofs.Common.{◌≡◌, drop}
use Rattle.flow_steps.specs.Waiting.{first_ready}
use Rattle.flow_steps.proofs.process.Process.first_ready.Given as goal

abbrev pub invariant-loop-held : goal.invariant-loop-held
invariant-loop-held l = first_ready l.self.heap (drop l.held-index l.held-items) ≡ first_ready l.self.heap l.held-items
