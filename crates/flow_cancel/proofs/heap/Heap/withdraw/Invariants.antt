use Rattle.std.proofs.Common.{◌≡◌, vec_len}
use Rattle.flow_cancel.specs.Leaving.{leave_all}
use Rattle.flow_cancel.proofs.heap.Heap.withdraw.Given as goal

abbrev pub invariant-loop-held : goal.invariant-loop-held
invariant-loop-held l = leave_all l.actor.0 l.callbacks.items l.self ≡ leave_all l.actor.0 l.initial.callbacks.items l.initial.self

abbrev pub decreases-loop-held : goal.decreases-loop-held
decreases-loop-held l = vec_len l.callbacks
