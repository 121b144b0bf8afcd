use Rattle.std.proofs.Common.{◌∙◌, map}
use Rattle.flow_class.specs.View.{class_of, raw_of}
use Rattle.flow_classprint.specs.ClassText.{all_text, front_text, class_text}
use Rattle.flow_classprint.proofs.Steps.{front_part, behind_items}
use Rattle.flow_classprint.proofs.write.write_classes.Goals as goal

pub returns-in_err-write_lines-clause-part : goal.returns-in_err-write_lines-clause-part
returns-in_err-write_lines-clause-part g c =
    front_part _ _ (front_text (raw_of c.args.raw.now)) (all_text class_text (map class_of c.args.raw.now.classes.items)) _ (c.deref.ensures.value ∙ c.in-Ok.ensures) c.write_lines.ensures.part

pub returns-clause-part : goal.returns-clause-part
returns-clause-part g c =
    behind_items class_text class_of _ _ _ (front_text (raw_of c.args.raw.now)) _ c.deref-2.result.now c.args.raw.now.classes.items
    (c.deref.ensures.value ∙ c.in-Ok.ensures) c.deref-2.ensures.value c.in_ok-write_lines.ensures.whole c.write_all.ensures.part
