use Rattle.std.proofs.lemmas.List.{drop_all}
use Rattle.std.proofs.Common.{arith}
use Rattle.flow_class.specs.View.{callback_of}
use Rattle.flow_classprint.specs.ClassText.{callback_text}
use Rattle.flow_classprint.proofs.Steps.{numbered_step, numbered_whole, next_ahead}
use Rattle.flow_classprint.proofs.block.put_callbacks.Goals as goal

pub loop-callback-preserved : goal.loop-callback-preserved
loop-callback-preserved c =
    next_ahead callback_text callback_of c.args.callbacks.now c.args.first c.loop-callback.number c.in_ok-number.number c.loop-callback.callback-index c.callback-item.result _ _ _ _
    c.in_ok-number.ensures c.loop-callback-test.true c.callback-item.is c.loop-callback.invariant c.in_ok-put_callback.ensures

pub returns : goal.returns
returns c =
    numbered_whole callback_text callback_of c.args.callbacks.now c.args.first c.loop-callback.number c.loop-callback.callback-index _ _
    (drop_all c.loop-callback.callback-index c.args.callbacks.now c.loop-callback-test.false) c.loop-callback.invariant
