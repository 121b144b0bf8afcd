use Rattle.std.proofs.Common.{◌∙◌}
use Rattle.flow_top.proofs.Deciding.{accepted, uncompiled, unlowered, is_compiled}
use Rattle.flow_top.proofs.judge.program.Goals as goal

pub classes_of-requires : goal.classes_of-requires
classes_of-requires c = accepted c.in-Ok.ensures

pub returns-in-Err : goal.returns-in-Err
returns-in-Err c = uncompiled c.args.text.now c.in-Err.told c.in-Err.ensures

pub returns-in-Ok-classes_of : goal.returns-in-Ok-classes_of
returns-in-Ok-classes_of c =
    is_compiled c.args.text.now c.in-Ok.sound c.of.result c.in-Ok-classes_of.classes c.none.result (c.of.ensures ∙ c.program.ensures) c.in-Ok.ensures c.in-Ok-classes_of.ensures

pub returns : goal.returns
returns c = unlowered c.args.text.now c.in-Ok.sound c.in-Err-classes_of.told c.in-Ok.ensures c.in-Err-classes_of.ensures
