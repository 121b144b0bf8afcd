use Rattle.std.proofs.Common.{◌≡◌}
use Rattle.flow_cancel.specs.Dropping.{refs_in}
use Rattle.flow_heap_refinement.specs.Holds.{hold_all}
use Rattle.flow_steps.specs.Holding.{on_heap}
use Rattle.flow_steps.specs.Acting.{some_values}
use Rattle.flow_steps.proofs.process.Process.fill_places.Given as goal

abbrev pub invariant-loop-arg : goal.invariant-loop-arg
invariant-loop-arg l =
    (l.self ≡ on_heap (hold_all (refs_in l.yielded)) l.fn.self)
    × (l.filled.items ≡ some_values l.yielded)
