use Rattle.std.proofs.Common.{◌≡◌, ◌+◌, ◌≤◌, ℕ, length}
use Rattle.flow_numbered.specs.Numbered.{IsRising}
use Rattle.flow_numbered.proofs.Above.{things_above}
use Rattle.flow_steps.proofs.process.Process.live.Given as goal

abbrev pub invariant-loop-actor : goal.invariant-loop-actor
invariant-loop-actor l = record {
  counted : (most : ℕ) → IsRising 0 l.self.heap.frames.things most
      → l.count + length (things_above l.last.0 l.self.heap.frames.things) ≡ length l.self.heap.frames.things;
  within : l.count ≤ l.last.0;
}

abbrev pub decreases-loop-actor : goal.decreases-loop-actor
decreases-loop-actor l = length (things_above l.last.0 l.self.heap.frames.things)
