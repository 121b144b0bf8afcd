use Rattle.std.proofs.Common.{ℕ, length}
use Rattle.std.specs.List.{flat_map}
use Rattle.flow_numbered.specs.Numbered.{IsRising}
use Rattle.flow_steps.specs.Views.{callback_views}
use Rattle.flow_numbered.proofs.Above.{things_above}
use Rattle.flow_steps.proofs.Listing.{IsTold}
use Rattle.flow_steps.proofs.process.Process.callbacks.Given as goal

abbrev pub invariant-loop-actor : goal.invariant-loop-actor
invariant-loop-actor l =
    (most : ℕ) → IsRising 0 l.self.heap.frames.things most
    → IsTold (flat_map callback_views) l.self.heap.frames.things l.views.items l.last.0

abbrev pub decreases-loop-actor : goal.decreases-loop-actor
decreases-loop-actor l = length (things_above l.last.0 l.self.heap.frames.things)
