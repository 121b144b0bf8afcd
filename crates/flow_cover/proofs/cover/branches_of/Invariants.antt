use Rattle.std.proofs.Common.{[]}
use Rattle.flow_cover.specs.Covers.{actor_branches}
use Rattle.flow_cover.proofs.Numbering.{Ahead}
use Rattle.flow_cover.proofs.cover.branches_of.Given as goal

abbrev pub invariant-loop-text : goal.invariant-loop-text
invariant-loop-text l = Ahead actor_branches l.texts 0 l.text l.text [] l.branches.items
