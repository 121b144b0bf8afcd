use Rattle.std.proofs.Common.{sym, ap, ◌∙◌}
use Rattle.flow_tree.specs.View.{expr_of}
use Rattle.flow_tree.proofs.Views.{expr_call}
use Rattle.flow_types.specs.SettingView.{setting_view}
use Rattle.flow_valid.specs.Validity.{calls_effect, is_effect}
use Rattle.flow_validate.proofs.types.is_effect.Goals as goal

pub returns : goal.returns
returns c =
    c.calls_effect.ensures ∙ ap calls_effect c.called.ensures
    ∙ sym (ap (is_effect (setting_view c.args.setting.now)) (ap expr_of c.in-Call.is ∙ expr_call c.in-Call.name c.in-Call.field-1))
