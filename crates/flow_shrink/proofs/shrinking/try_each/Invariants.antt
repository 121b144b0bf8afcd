use Rattle.std.proofs.Common.{◌≡◌, ◌≤◌, ◌+◌}
use Rattle.flow_worldfile.specs.Worlds.{IsInRange, seen}
use Rattle.flow_shrink.specs.Shrinking.{Stops}
use Rattle.flow_shrink.specs.Editing.{TriedFrom}
use Rattle.flow_shrink.proofs.shrinking.try_each.Given as goal

abbrev pub invariant-loop-place : goal.invariant-loop-place
invariant-loop-place g l =
    TriedFrom (g.E.Edits.edit l.fn.edits)
    (λ w. Stops (g.R.Runner.means (g.R.Runner.kept l.fn.runner) w) ((goal.Monitor-dyn g (l.fn.monitor.vtable, l.fn.monitor.value)).begun l.fn.monitor.value l.limit))
    l.place (seen l.fn.world) (seen l.world)
    × IsInRange (seen l.world)
    × ((goal.Monitor-dyn g (l.monitor.vtable, l.monitor.value)).begun l.monitor.value
    ≡ (goal.Monitor-dyn g (l.fn.monitor.vtable, l.fn.monitor.value)).begun l.fn.monitor.value)
    × (g.R.Runner.count l.runner + l.place ≤ g.R.Runner.count l.fn.runner + (g.E.Edits.edit l.fn.edits).places (seen l.fn.world))
    × (g.R.Runner.kept l.runner ≡ g.R.Runner.kept l.fn.runner)
    × g.R.Runner.ready l.runner

abbrev pub decreases-loop-place : goal.decreases-loop-place
decreases-loop-place g l = l.place
