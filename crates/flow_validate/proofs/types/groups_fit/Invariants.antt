use Rattle.std.proofs.Common.{◌≡◌, drop, map}
use Rattle.std.specs.List.{list_all}
use Rattle.flow_class.specs.View.{class_of, group_of}
use Rattle.flow_types.specs.SettingView.{setting_view}
use Rattle.flow_valid.specs.Validity.{callback_fits}
use Rattle.flow_validate.proofs.types.groups_fit.Given as goal

abbrev pub invariant-loop-group : goal.invariant-loop-group
invariant-loop-group l =
    list_all (list_all (callback_fits (class_of l.class) (setting_view l.setting))) (map group_of (drop l.group-index l.class.groups.items))
    ≡ list_all (list_all (callback_fits (class_of l.class) (setting_view l.setting))) (map group_of l.class.groups.items)
