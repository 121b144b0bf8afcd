use Rattle.std.proofs.Common.{ℕ, length, map}
use Rattle.flow_numbered.specs.Numbered.{IsRising}
use Rattle.flow_steps.specs.Views.{frame_view}
use Rattle.flow_numbered.proofs.Above.{things_above}
use Rattle.flow_steps.proofs.Listing.{IsTold}
use Rattle.flow_steps.proofs.process.Process.frames.Given as goal

abbrev pub invariant-loop-actor : goal.invariant-loop-actor
invariant-loop-actor l =
    (most : ℕ) → IsRising 0 l.self.heap.frames.things most
    → IsTold (map frame_view) l.self.heap.frames.things l.views.items l.last.0

abbrev pub decreases-loop-actor : goal.decreases-loop-actor
decreases-loop-actor l = length (things_above l.last.0 l.self.heap.frames.things)
