use Rattle.std.proofs.Common.{map, take}
use Rattle.flow_class.specs.View.{callback_of}
use Rattle.flow_validate.specs.WalkStates.{standing, branch_way, Entered}
use Rattle.flow_validate.proofs.filling.Walks.enter_branches.Given as goal

abbrev pub invariant-loop-callback : goal.invariant-loop-callback
invariant-loop-callback l = Entered (standing l.fn.self) (standing l.self) (map (branch_way l.window l.empty) (map callback_of (take l.callback-index l.callbacks)))
