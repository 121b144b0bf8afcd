use Rattle.std.proofs.Common.{◌≡◌, IfOk, map, ap, ◌∙◌, subst}
use Rattle.flow_class.specs.View.{class_of, raw_of}
use Rattle.flow_classread.specs.Reached.{class_names}
use Rattle.flow_classread.proofs.Reached.{accepted, refused}
use Rattle.flow_classread.proofs.read.judge.Goals as goal

pub returns-in-Ok : goal.returns-in-Ok
returns-in-Ok c = λ bytes text. accepted bytes (raw_of c.args.raw) c.in-Ok.classes c.in-Ok.ensures.valid.0 text c.in-Ok.ensures.valid.1

pub returns : goal.returns
returns c = λ bytes text.
    let named = subst (λ r. IfOk r (λ v. v.items ≡ class_names (map class_of c.deref.result.now))) c.in_ok-names.was c.names_of.ensures in
    let names = c.deref-in-Err.ensures.value ∙ named ∙ ap (λ cs. class_names (map class_of cs)) c.deref.ensures.value in
    refused bytes (raw_of c.args.raw) c.deref-in-Err.result.now c.in-Err.fault c.invalid.result names text c.in-Err.ensures.refused c.invalid.ensures
