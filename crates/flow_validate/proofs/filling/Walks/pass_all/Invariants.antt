use Rattle.flow_class.specs.View.{class_of}
use Rattle.flow_validate.specs.WalkStates.{standing, AreWalks, work}
use Rattle.flow_validate.proofs.filling.Walks.pass_all.Given as goal

abbrev pub invariant-loop-block : goal.invariant-loop-block
invariant-loop-block l = AreWalks (class_of l.class) l.window (standing l.self)

abbrev pub decreases-loop-block : goal.decreases-loop-block
decreases-loop-block l = work (standing l.self)
