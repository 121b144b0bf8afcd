use Rattle.std.proofs.Common.{Err, subst, sym}
use Rattle.flow_tree.specs.DeclView.{program_of}
use Rattle.flow_class.specs.View.{raw_of}
use Rattle.flow_lower.specs.Compiled.{Compiles}
use Rattle.flow_top.specs.Steps.{LowersTo, are_classes, is_heavy, no_classes}
use Rattle.flow_top.proofs.judge.classes_of.Goals as goal

pub returns-in-Ok : goal.returns-in-Ok
returns-in-Ok c = are_classes c.in-Ok.classes c.in-Ok.ensures.classes.0 c.in-Ok.ensures.classes.1

pub returns-in-Err-TooManyBlocks : goal.returns-in-Err-TooManyBlocks
returns-in-Err-TooManyBlocks c =
    let p = program_of c.args.sound.now.typed.program in
    let heavy = subst (λ f. Compiles raw_of p (Err f)) c.in-Err-TooManyBlocks.field-0-is c.in-Err-TooManyBlocks.ensures.classes in
    subst (λ x. LowersTo p (Err x)) (sym c.too_heavy.ensures) (is_heavy c.in-Err-TooManyBlocks.at heavy)

pub returns-in-Err-OutOfMemory : goal.returns-in-Err-OutOfMemory
returns-in-Err-OutOfMemory c = no_classes
