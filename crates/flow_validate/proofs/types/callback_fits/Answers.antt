use Rattle.std.proofs.Common.{true, sym, ap, ◌∙◌}
use Rattle.std.specs.Option.{option_map}
use Rattle.flow_types.specs.View.{inner_of}
use Rattle.flow_types.specs.SettingView.{setting_view}
use Rattle.flow_class.specs.View.{class_of, callback_of}
use Rattle.flow_valid.specs.Validity.{has_type, operand_fits}
use Rattle.flow_validate.proofs.types.callback_fits.Goals as goal

pub returns-in-Some : goal.returns-in-Some
returns-in-Some c =
    let s = setting_view c.args.setting.now in
    let k = callback_of c.args.callback.now in
    c.has_type.ensures ∙ ap (has_type s true k.operand) c.operand_type.ensures
    ∙ ap (operand_fits (class_of c.args.class.now) s k) (sym (ap (option_map inner_of) c.in-Some.is) ∙ c.taken_type.ensures s)

pub returns-in-None : goal.returns-in-None
returns-in-None c =
    let s = setting_view c.args.setting.now in
    let k = callback_of c.args.callback.now in
    ap (operand_fits (class_of c.args.class.now) s k) (sym (ap (option_map inner_of) c.in-None.is) ∙ c.taken_type.ensures s)
