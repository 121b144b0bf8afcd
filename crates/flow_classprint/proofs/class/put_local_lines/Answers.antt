use Rattle.std.proofs.lemmas.List.{drop_all}
use Rattle.std.proofs.Common.{arith}
use Rattle.flow_tree.specs.View.{type_of}
use Rattle.flow_classprint.specs.ClassText.{local_line}
use Rattle.flow_classprint.proofs.Steps.{numbered_step, numbered_whole, next_ahead}
use Rattle.flow_classprint.proofs.class.put_local_lines.Goals as goal

pub loop-ty-preserved : goal.loop-ty-preserved
loop-ty-preserved c =
    next_ahead local_line type_of c.args.locals.now 0 c.loop-ty.number c.in_ok-number.number c.loop-ty.ty-index c.ty-item.result _ _ _ _ c.in_ok-number.ensures c.loop-ty-test.true c.ty-item.is
    c.loop-ty.invariant c.in_ok-put_local_line.ensures

pub returns : goal.returns
returns c =
    numbered_whole local_line type_of c.args.locals.now 0 c.loop-ty.number c.loop-ty.ty-index _ _ (drop_all c.loop-ty.ty-index c.args.locals.now c.loop-ty-test.false) c.loop-ty.invariant
