use Rattle.std.proofs.Common.{◌≡◌, ℕ, ◌+◌, ◌-◌, length}
use Rattle.flow_frame.specs.Frames.{padded}
use Rattle.flow_frame.proofs.frame.reach.Given as goal

abbrev pub invariant-loop-filled : goal.invariant-loop-filled
invariant-loop-filled g l = (places : ℕ) → padded places l.filled.items ≡ padded places l.initial.filled.items

abbrev pub decreases-loop-filled : goal.decreases-loop-filled
decreases-loop-filled g l = l.place + 1 - length l.filled.items
