use Rattle.std.proofs.Common.{arith}
use Rattle.flow_split.specs.Contexts.{names_in, slots_in}
use Rattle.flow_split.proofs.Choices.{callbacks_more}
use Rattle.flow_split.proofs.emitter.Emitter.callbacks.Goals as goal

pub loop-branch-preserved : goal.loop-branch-preserved
loop-branch-preserved c =
    callbacks_more (names_in c.args.context.now) (slots_in c.args.context.now) c.args.self.now.scopes c.args.tried c.args.branches.now c.loop-branch.branch-index c.branch-item.result _ _ _
    c.loop-branch.block
    c.loop-branch.next _ _ _ _ _ (omega (arith, c.loop-branch-test.true)) c.branch-item.is c.in_ok-push.ensures.items c.in_ok-callback.ensures c.in_ok-size.ensures.blocks c.in_ok-size.ensures.locals
    c.in_ok-block.ensures c.in_ok-next.ensures c.loop-branch.invariant
