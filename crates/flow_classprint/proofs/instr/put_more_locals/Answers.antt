use Rattle.std.proofs.Common.{refl}
use Rattle.flow_classprint.specs.ClassText.{further_local}
use Rattle.flow_classprint.proofs.Steps.{own_step, own_whole}
use Rattle.flow_classprint.proofs.instr.put_more_locals.Goals as goal

pub loop-local-preserved : goal.loop-local-preserved
loop-local-preserved c =
    own_step further_local c.args.locals.now c.loop-local.local-index _ 0 _ _ _ c.loop-local-test.true refl c.loop-local.invariant c.in_ok-put_further.ensures

pub returns : goal.returns
returns c = own_whole further_local c.args.locals.now c.loop-local.local-index _ _ c.loop-local-test.false c.loop-local.invariant
