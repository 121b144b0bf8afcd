use Rattle.std.proofs.Common.{◌≡◌, vec_len}
use Rattle.flow_cancel.specs.Dropping.{drops, refs_in}
use Rattle.flow_steps.proofs.process.Process.drop_values.Given as goal

abbrev pub decreases-loop-value : goal.decreases-loop-value
decreases-loop-value l = vec_len l.values

abbrev pub invariant-loop-value : goal.invariant-loop-value
invariant-loop-value l =
    (l.self ≡ record l.fn.self { heap = record l.fn.self.heap { tasks = l.self.heap.tasks } })
    × (drops (refs_in l.values.items) l.self.heap.tasks ≡ drops (refs_in l.fn.values.items) l.fn.self.heap.tasks)
