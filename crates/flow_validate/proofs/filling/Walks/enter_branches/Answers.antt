use Rattle.std.proofs.Common.{[], ◌∷◌, map, take, List, subst, sym}
use Rattle.flow_class.specs.View.{callback_of}
use Rattle.flow_validate.specs.WalkStates.{Way, standing, branch_way, Entered}
use Rattle.flow_validate.proofs.Entering.{entered_then}
use Rattle.flow_validate.proofs.Ways.{more_mapped}
use Rattle.flow_validate.proofs.filling.Walks.enter_branches.Goals as goal

pub loop-callback-preserved : goal.loop-callback-preserved
loop-callback-preserved c =
    let way = branch_way c.args.window c.args.empty in
    let xs = c.args.callbacks.now in
    let i = c.loop-callback.callback-index in
    let old = standing c.args.self.now in
    let new = standing c.enter_branch.new.self in
    let x = c.callback-item.result in
    subst (λ (ways : List Way). Entered old new ways) (sym (more_mapped way callback_of xs i x c.loop-callback-test.true c.callback-item.is))
    (entered_then old (standing c.loop-callback.self) new (map way (map callback_of (take i xs))) (way (callback_of x) ∷ []) c.loop-callback.invariant c.in_ok-enter_branch.ensures)
