use Rattle.std.proofs.Common.{Err, sym, subst, ◌∙◌}
use Rattle.flow_top.specs.Steps.{CompilesTo, no_classes}
use Rattle.flow_top.specs.declared.outcome.Answered.TheVariants.{OutOfMemory}
use Rattle.flow_top.proofs.Deciding.{accepted, uncompiled, unlowered, is_compiled}
use Rattle.flow_top.proofs.judge.program_with_waits.Goals as goal

pub classes_of-requires : goal.classes_of-requires
classes_of-requires c = accepted c.in-Ok.ensures

pub returns-in-Err-clause-judged : goal.returns-in-Err-clause-judged
returns-in-Err-clause-judged c = uncompiled c.args.text.now c.in-Err.told c.in-Err.ensures

pub returns-in-Err-classes_of-clause-judged : goal.returns-in-Err-classes_of-clause-judged
returns-in-Err-classes_of-clause-judged c = unlowered c.args.text.now c.in-Ok.sound c.in-Err-classes_of.told c.in-Ok.ensures c.in-Err-classes_of.ensures

pub returns-in-Err-waits_of-clause-judged : goal.returns-in-Err-waits_of-clause-judged
returns-in-Err-waits_of-clause-judged c =
    subst (λ o. CompilesTo c.args.text.now (Err o)) (sym c.in-Err-waits_of.ensures)
    (unlowered c.args.text.now c.in-Ok.sound OutOfMemory c.in-Ok.ensures no_classes)

pub returns-clause-judged : goal.returns-clause-judged
returns-clause-judged c =
    is_compiled c.args.text.now c.in-Ok.sound c.of.result c.in-Ok-classes_of.classes c.in-Ok-waits_of.waits (c.of.ensures ∙ c.program-2.ensures) c.in-Ok.ensures
    c.in-Ok-classes_of.ensures
