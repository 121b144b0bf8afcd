use Rattle.std.proofs.Common.{◌+◌, refl, inl, arith}
use Rattle.flow_parse.proofs.Looking.{not_true}
use Rattle.flow_classread.proofs.Heading.{class_alone, class_or}
use Rattle.flow_classread.proofs.text.begins_class.Goals as goal

pub returns-then-not-says : goal.returns-then-not-says
returns-then-not-says c = inl (λ e. not_true (c.if-not-says.ensures.says.1 e))

pub returns-then-not-is_name : goal.returns-then-not-is_name
returns-then-not-is_name c =
    class_alone c.args.tokens.now.spots.items c.args.at (c.args.at + 1) (omega arith) (c.if-not-says.ensures.says.0 refl) (λ h. not_true (c.if-not-is_name.ensures.name.1 h))

pub returns : goal.returns
returns c =
    class_or c.args.tokens.now.spots.items c.args.at (c.args.at + 1) (c.args.at + 2) c.is_sign.result (omega arith) (omega arith) (c.if-not-says.ensures.says.0 refl)
    (c.if-not-is_name.ensures.name.0 refl) c.is_sign.ensures.sign.0 c.is_sign.ensures.sign.1
