use Rattle.std.proofs.Common.{◌≡◌, drop}
use Rattle.std.specs.Option.{option_map}
use Rattle.flow_rules.specs.Least.{lesser}
use Rattle.flow_rules.specs.Items.{path_form, path_fault}
use Rattle.flow_types.specs.View.{found_of}
use Rattle.flow_types.specs.SettingView.{setting_view}
use Rattle.flow_types.proofs.judge.Setting.fields.Given as goal

abbrev pub invariant-loop-name : goal.invariant-loop-name
invariant-loop-name l =
    (path_form (setting_view l.self) (option_map found_of l.judged.form) (drop l.name-index l.names) ≡ path_form (setting_view l.self) (option_map found_of l.base.form) l.names)
    × (lesser l.judged.fault (path_fault (setting_view l.self) (option_map found_of l.judged.form) (drop l.name-index l.names))
    ≡ lesser l.base.fault (path_fault (setting_view l.self) (option_map found_of l.base.form) l.names))
