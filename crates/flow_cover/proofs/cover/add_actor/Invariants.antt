use Rattle.std.proofs.Common.{◌+◌}
use Rattle.flow_cover.specs.Covers.{wait_branches}
use Rattle.flow_cover.proofs.Numbering.{Ahead}
use Rattle.flow_cover.proofs.cover.add_actor.Given as goal

abbrev pub invariant-loop-before : goal.invariant-loop-before
invariant-loop-before l = Ahead (wait_branches l.text l.actor.name) l.actor.waits 1 (l.before + 1) l.before l.initial.branches.items l.branches.items
